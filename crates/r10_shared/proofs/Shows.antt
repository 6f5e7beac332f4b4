-- What a feed shows of its lane, turn by turn.
use Rattle.std.proofs.Common.{◌≡◌, ℕ, ◌+◌, ◌-◌, ◌≤◌, ◌==◌, Bool, true, false, cond, List, [], ◌∷◌, ◌++◌, length, count_by, Option, Some, None, Result, Ok, Err, MatchOption, MatchResult, refl, sym, ap, subst, ◌∙◌, append_assoc, arith}
use Rattle.std.specs.Prelude.{IsSomeAnd, ◌&&◌}
use Rattle.std.proofs.lemmas.Bool.{and_from, and_parts, eq-eqb, eqb-true}
use Rattle.std.proofs.lemmas.List.{append-nil}
use Rattle.std.proofs.lemmas.List.Sums.{sum_by-cons}
use Rattle.r10_body.specs.declared.entry.Timed.{Timed}
use Rattle.r10_body.specs.declared.refusal.Glance.{Glance}
use Rattle.r10_body.specs.declared.refusal.Refusal.{Refusal}
use Rattle.r10_body.specs.declared.refusal.Refusal.TheVariants.{Overflow}
use Rattle.r10_count.specs.Checks.{first_broken}
use Rattle.r10_gauge.proofs.Steps.{last_triple_push}
use Rattle.r10_gauge.specs.Published.{PublishingEnd, last_triple}
use Rattle.r10_machine.specs.Calls.{accepted, overflowed}
use Rattle.r10_machine.specs.Checks.{offer_checks}
use Rattle.r10_machine.specs.Machine.{saturated}
use Rattle.r10_port.specs.Ends.{Offered, Sending, sent}
use Rattle.r10_source.specs.Pumps.{OffersAll, PumpsSource, Tried, counts, is_accepted, tries}
use Rattle.r10_source.specs.declared.pump.Pumped.{Pumped}
use Rattle.r10_source.specs.declared.source.SourceItem.{SourceItem}
use Rattle.r10_shared.specs.Feeding.{FedFrom}
use Rattle.r10_shared.specs.Levels.{FedShowing, GrewBy, ShowsEach, TellsLast, TellsNumbers, is_level, level_of, shown_by}
use Rattle.r10_shared.specs.declared.source.Tally.{Tally}

-- ---- a look after a turn

-- a sender that has looked
abbrev pub looking : Sending → ℕ → Sending
looking port free = record port { free = free }

looked_offer : (p q : Sending) (free : ℕ) (item : Timed) (u : Unit {0}) → q.free ≤ free → Offered p item.count item.message (Ok u) q → Offered p item.count item.message (Ok u) (looking q free)
looked_offer p q free item u more offered = by (first_broken (offer_checks (Some p.lane) item.count item.message)) offered
  where
    by : (first : Option Refusal)
        → MatchOption first
        ((q ≡ record p { lane = accepted item.count item.message p.lane; free = q.free }) × (p.free ≤ q.free + 1))
        (λ r. (◌≡◌ {A = Result (Unit {0}) Refusal} (Ok u) (Err r)) × (q ≡ p))
        → MatchOption first
        ((looking q free ≡ record p { lane = accepted item.count item.message p.lane; free = free }) × (p.free ≤ free + 1))
        (λ r. (◌≡◌ {A = Result (Unit {0}) Refusal} (Ok u) (Err r)) × (looking q free ≡ p))
    by None (same, room) = (ap (λ (s : Sending). looking s free) same, omega (arith, room, more))
    by (Some r) (refused, same) = absurd (cc)

-- a sender that looked after a turn which sent a message, and not after another
module _ (p q r : Sending) (x : Pumped) (same : r ≡ record q { free = r.free }) (more : q.free ≤ r.free) (idle : x.accepted ≡ 0 → r ≡ q) where
  looked_offers : (tried : List Tried) → length tried ≤ 1 → x.accepted ≡ count_by is_accepted tried → OffersAll p tried q → OffersAll p tried r
  looked_offers [] short is offers = idle is ∙ offers
  looked_offers (tries item (Ok u) ∷ []) short is (next, offered, last) =
      (r, subst (Offered p item.count item.message (Ok u)) (sym same) (looked_offer p q r.free item u more (subst (Offered p item.count item.message (Ok u)) (sym last) offered)), refl)
  looked_offers (tries item (Err e) ∷ []) short is (next, offered, last) = (next, offered, idle (omega (arith, is, sum_by-cons (λ (t : Tried). cond (is_accepted t) 1 0) (tries item (Err e)) [])) ∙ last)
  looked_offers (counts n ∷ []) short is offers = idle (omega (arith, is, sum_by-cons (λ (t : Tried). cond (is_accepted t) 1 0) (counts n) [])) ∙ offers
  looked_offers (t ∷ u ∷ tried) short is offers = absurd (omega (arith, short))

  pub pumps_looked : (a b : List SourceItem) → PumpsSource 1 a b p q x → PumpsSource 1 a b p r x
  pumps_looked a b pumps = record {
    tried = pumps.tried;
    given = pumps.given;
    offers = looked_offers pumps.tried pumps.turns pumps.accepted pumps.offers;
    same = (ap (λ (s : Sending). s.ring) same ∙ pumps.same.0, ap (λ (s : Sending). s.lane.spec) same ∙ pumps.same.1);
    sent = ap sent same ∙ pumps.sent;
    accepted = pumps.accepted;
    refused = pumps.refused;
    turns = pumps.turns;
    ended = pumps.ended;
  }

-- ---- what is shown of a turn

level_self : (p : Sending) → is_level p p ≡ true
level_self p = and_from _ _ (eq-eqb (saturated (length (sent p))) (saturated (length (sent p))) refl) (eq-eqb p.lane.lost p.lane.lost refl)

pub nothing_shown : (p q : Sending) → q ≡ p → shown_by p q ≡ []
nothing_shown p q same = ap (shown_by p) same ∙ ap (λ b. cond b [] (level_of p ∷ [])) (level_self p)

pub none_shown : (p q : Sending) → is_level p q ≡ true → shown_by p q ≡ []
none_shown p q is = ap (λ b. cond b [] (level_of q ∷ [])) is

pub one_shown : (p q : Sending) → is_level p q ≡ false → shown_by p q ≡ level_of q ∷ []
one_shown p q is = ap (λ b. cond b [] (level_of q ∷ [])) is

pub turn_shown : (p q : Sending) (tried : List Tried) → length tried ≤ 1 → OffersAll p tried q → ShowsEach p tried (shown_by p q) q
turn_shown p q [] short offers = (offers, nothing_shown p q offers)
turn_shown p q (t ∷ []) short offers = (q, [], offers, sym (append-nil (shown_by p q)), (refl, refl))
turn_shown p q (t ∷ u ∷ tried) short offers = absurd (omega (arith, short))

pub shows_join : (a b c : Sending) (xs ys : List Tried) (one other : List Glance) → ShowsEach a xs one b → ShowsEach b ys other c → ShowsEach a (xs ++ ys) (one ++ other) c
shows_join a b c [] ys one other (same, none) second = subst (λ (x : Sending × List Glance). ShowsEach x.0 ys (x.1 ++ other) c) (λ i. (same i, sym none i)) second
shows_join a b c (x ∷ xs) ys one other (next, rest, offers, is, more) second =
    (next, rest ++ other, offers, ap (λ (l : List Glance). l ++ other) is ∙ append_assoc (shown_by a next) rest other, shows_join next b c xs ys rest other more second)

-- ---- what a gauge has

pub grew_none : (g : Option PublishingEnd) → GrewBy g g []
grew_none None = refl
grew_none (Some g) = (refl, sym (append-nil g.published))

pub grew_join : (a b c : Option PublishingEnd) (xs ys : List Glance) → GrewBy a b xs → GrewBy b c ys → GrewBy a c (xs ++ ys)
grew_join None b c xs ys first second = subst (λ (g : Option PublishingEnd). GrewBy g c ys) first second
grew_join (Some a) None c xs ys first second = absurd first
grew_join (Some a) (Some b) None xs ys first second = absurd second
grew_join (Some a) (Some b) (Some c) xs ys first second = (second.0 ∙ first.0, second.1 ∙ ap (λ (l : List Glance). l ++ ys) first.1 ∙ append_assoc a.published xs ys)

-- ---- the last that is shown

tells_on : (x : Glance) (p q : Sending) → is_level p q ≡ true → TellsNumbers x p → TellsNumbers x q
tells_on x p q is tells = record {
  sent_is = tells.sent_is ∙ sym (eqb-true _ _ (and_parts _ _ is).0);
  lost_is = tells.lost_is ∙ sym (eqb-true _ _ (and_parts _ _ is).1);
}

tells_level : (xs : List Glance) (p : Sending) → TellsNumbers (last_triple (xs ++ level_of p ∷ [])) p
tells_level xs p = record {
  sent_is = ap (λ (x : Glance). x.commits) (last_triple_push xs (level_of p));
  lost_is = ap (λ (x : Glance). x.file) (last_triple_push xs (level_of p));
}

last_shown : (g : List Glance) (p q : Sending) (tried : List Tried) (shown : List Glance) → ShowsEach p tried shown q → TellsNumbers (last_triple g) p → TellsNumbers (last_triple (g ++ shown)) q
last_shown g p q [] shown (same, none) tells =
    subst (λ (x : Sending × List Glance). TellsNumbers (last_triple x.1) x.0) (λ i. (sym same i, (sym (append-nil g) ∙ ap (λ (l : List Glance). g ++ l) (sym none)) i)) tells
last_shown g p q (t ∷ tried) shown (next, rest, offers, is, more) tells =
    by (is_level p next) refl (λ reported. last_shown g next q tried rest more reported) (last_shown (g ++ level_of next ∷ []) next q tried rest more (tells_level g next))
  where
    by : (b : Bool) → is_level p next ≡ b → (TellsNumbers (last_triple g) next → TellsNumbers (last_triple (g ++ rest)) q) → TellsNumbers (last_triple ((g ++ level_of next ∷ []) ++ rest)) q → TellsNumbers (last_triple (g ++ shown)) q
    by true same later after =
        let all : shown ≡ rest = is ∙ ap (λ (l : List Glance). l ++ rest) (none_shown p next same) in
        subst (λ (l : List Glance). TellsNumbers (last_triple (g ++ l)) q) (sym all) (later (tells_on (last_triple g) p next same tells))
    by false other later after =
        let all : shown ≡ level_of next ∷ rest = is ∙ ap (λ (l : List Glance). l ++ rest) (one_shown p next other) in
        let split : g ++ shown ≡ (g ++ level_of next ∷ []) ++ rest = ap (λ (l : List Glance). g ++ l) all ∙ sym (append_assoc g (level_of next ∷ []) rest) in
        subst (λ (l : List Glance). TellsNumbers (last_triple l) q) (sym split) after

pub tells_last : (a b : Option PublishingEnd) (p q : Sending) (tried : List Tried) (shown : List Glance) → GrewBy a b shown → ShowsEach p tried shown q → TellsLast a p → TellsLast b q
tells_last None b p q tried shown grew shows tells = subst (λ (g : Option PublishingEnd). TellsLast g q) (sym grew) tt
tells_last (Some a) None p q tried shown grew shows tells = absurd grew
tells_last (Some a) (Some b) p q tried shown grew shows tells = subst (λ (l : List Glance). TellsNumbers (last_triple l) q) (sym grew.1) (last_shown a.published p q tried shown shows tells)

-- ---- a feed

-- nothing was tried
pub showing_none : (a : List SourceItem) (p q : Sending) (tally : Tally) (gauge : Option PublishingEnd) → q ≡ p → tally ≡ record { accepted = 0; refused = 0 } → FedShowing a p q tally gauge gauge
showing_none a p q tally gauge same none =
    subst (λ (x : Sending × Tally). FedShowing a p x.0 x.1 gauge gauge) (λ i. (sym same i, sym none i)) (record {
      fed = record { tried = []; left = a; given = refl; offers = refl; same = (refl, refl); sent_is = sym (append-nil (sent p)); accepted_is = refl; refused_is = refl };
      shown = [];
      shows = (refl, refl);
      grew = grew_none gauge;
      last = λ tells. tells;
    })
