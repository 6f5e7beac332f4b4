-- What turns of a feed come to.
use Rattle.std.proofs.Common.{◌≡◌, ℕ, Bool, true, false, subst, ◌+◌, List, [], ◌++◌, map, cond, refl, sym, ap, inl, inr, ⊎_elim, true≢false, Option, Some, None, ◌∙◌, append_assoc, arith}
use Rattle.std.proofs.lemmas.List.{append-nil, map-append}
use Rattle.std.proofs.lemmas.List.Sums.{sum_by-append}
use Rattle.r10_machine.specs.Machine.{saturated}
use Rattle.r10_port.specs.Ends.{Sending, sent}
use Rattle.r10_source.specs.declared.pump.Pumped.{Pumped}
use Rattle.r10_source.specs.Pumps.{Tried, PumpsSource, is_accepted, is_refused, turn_of}
use Rattle.r10_source.specs.declared.source.SourceItem.{SourceItem}
use Rattle.r10_source.proofs.Feeding.{offers_join, offers_sent, offers_same}
use Rattle.r10_shared.specs.Feeding.{FedBehind, FedFrom, FedUnless, FedUntil, HasRunUntil, HasRunWhole, never}
use Rattle.r10_body.specs.declared.refusal.Glance.{Glance}
use Rattle.r10_gauge.specs.Published.{PublishingEnd}
use Rattle.r10_shared.specs.Levels.{FedShowing, GrewBy, ShowsEach, shown_by}
use Rattle.r10_shared.specs.Naming.{SendingLine}
use Rattle.r10_shared.proofs.Shows.{grew_join, grew_none, shows_join, tells_last, turn_shown}
use Rattle.r10_shared.specs.declared.source.Tally.{Tally}

-- so much was done, and this is left
abbrev pub FedTo : List SourceItem → List SourceItem → Sending → Sending → Tally → Type 0
FedTo a b p q tally = (fed : FedFrom a p q tally) × (fed.left ≡ b)

abbrev none_tallied : Tally
none_tallied = record { accepted = 0; refused = 0 }

-- nothing yet
pub fed_none : (a : List SourceItem) (p : Sending) → FedTo a a p p none_tallied
fed_none a p = (
  record {
    tried = [];
    left = a;
    given = refl;
    offers = refl;
    same = (refl, refl);
    sent_is = sym (append-nil (sent p));
    accepted_is = refl;
    refused_is = refl;
  },
  refl,
)

abbrev turns_of : List Tried → List SourceItem
turns_of tried = map turn_of tried

-- so far, and then a pump of the rest
pub fed_join : (n : ℕ) (a b c : List SourceItem) (p q r : Sending) (x : Pumped) (tally : Tally) (accepted refused : ℕ) → FedTo a b p q tally → PumpsSource n b c q r x
    → accepted ≡ saturated (tally.accepted + x.accepted) → refused ≡ saturated (tally.refused + x.refused) → FedTo a c p r (record { accepted = accepted; refused = refused })
fed_join n a b c p q r x tally accepted refused (fed, left) pumps more others =
    let tried = fed.tried ++ pumps.tried in
    let offers = offers_join p q r fed.tried pumps.tried fed.offers pumps.offers in (
      record {
        tried = tried;
        left = c;
        given = fed.given ∙ ap (λ (l : List SourceItem). turns_of fed.tried ++ l) (left ∙ pumps.given) ∙ sym (append_assoc (turns_of fed.tried) (turns_of pumps.tried) c)
            ∙ ap (λ (l : List SourceItem). l ++ c) (sym (map-append turn_of fed.tried pumps.tried));
        offers = offers;
        same = offers_same p r tried offers;
        sent_is = offers_sent p r tried offers;
        accepted_is = omega (arith, more, fed.accepted_is, pumps.accepted, sum_by-append (λ (t : Tried). cond (is_accepted t) 1 0) fed.tried pumps.tried);
        refused_is = omega (arith, others, fed.refused_is, pumps.refused, sum_by-append (λ (t : Tried). cond (is_refused t) 1 0) fed.tried pumps.tried);
      },
      refl,
    )

-- so much was tried and shown, and this is left
pub record FedShown (a b : List SourceItem) (p q : Sending) (tally : Tally) (gauge later : Option PublishingEnd) : Type 0 where
  pub fed : FedFrom a p q tally
  pub left : fed.left ≡ b
  pub shown : List Glance
  pub shows : ShowsEach p fed.tried shown q
  pub grew : GrewBy gauge later shown

pub shown_none : (a : List SourceItem) (p : Sending) (gauge : Option PublishingEnd) → FedShown a a p p none_tallied gauge gauge
unfolding fed_none
shown_none a p gauge = record { fed = (fed_none a p).0; left = (fed_none a p).1; shown = []; shows = (refl, refl); grew = grew_none gauge }

pub shown_join : (a b c : List SourceItem) (p q r : Sending) (x : Pumped) (tally : Tally) (accepted refused : ℕ) (gauge mid later : Option PublishingEnd) → FedShown a b p q tally gauge mid → PumpsSource 1 b c q r x → GrewBy mid later (shown_by q r)
    → accepted ≡ saturated (tally.accepted + x.accepted) → refused ≡ saturated (tally.refused + x.refused) → FedShown a c p r (record { accepted = accepted; refused = refused }) gauge later
unfolding fed_join
shown_join a b c p q r x tally accepted refused gauge mid later so pumps grew more others =
    let joined = fed_join 1 a b c p q r x tally accepted refused (so.fed, so.left) pumps more others in record {
      fed = joined.0;
      left = joined.1;
      shown = so.shown ++ shown_by q r;
      shows = shows_join p q r so.fed.tried pumps.tried so.shown (shown_by q r) so.shows (turn_shown q r pumps.tried pumps.turns pumps.offers);
      grew = grew_join gauge mid later so.shown (shown_by q r) so.grew grew;
    }

pub showing_all : (a b : List SourceItem) (p q : Sending) (tally : Tally) (gauge later : Option PublishingEnd) → FedShown a b p q tally gauge later → FedShowing a p q tally gauge later
showing_all a b p q tally gauge later so = record {
  fed = so.fed;
  shown = so.shown;
  shows = so.shows;
  grew = so.grew;
  last = tells_last gauge later p q so.fed.tried so.shown so.grew so.shows;
}

-- where the source has ended, all that it had was offered
pub fed_whole : (stops : Bool → Type 0) (n : ℕ) (a b c : List SourceItem) (p q r : Sending) (x : Pumped) (tally : Tally) (accepted refused : ℕ) → FedTo a b p q tally → PumpsSource n b c q r x → accepted ≡ saturated (tally.accepted + x.accepted) → refused ≡ saturated (tally.refused + x.refused) → x.ended ≡ true
    → FedUnless stops a p r (record { accepted = accepted; refused = refused })
fed_whole stops n a b c p q r x tally accepted refused so pumps more others ended =
    let done = subst (λ (l : List SourceItem). FedTo a l p r (record { accepted = accepted; refused = refused })) (pumps.ended ended) (fed_join n a b c p q r x tally accepted refused so pumps more others) in
    (done.0, inl done.1)

-- where a stop was asked, so much was offered
pub fed_stopped : (stops : Bool → Type 0) (a b : List SourceItem) (p q r : Sending) (tally : Tally) → FedTo a b p q tally → r ≡ q → stops true → FedUnless stops a p r tally
fed_stopped stops a b p q r tally so same asked = subst (λ (s : Sending). FedUnless stops a p s tally) (sym same) (so.0, inr asked)

-- past the gate: all that the source had was offered, or nothing
pub fed_let : (answers stops : Bool → Type 0) (a : List SourceItem) (p q : Sending) (tally : Tally) (answer : Bool) → answers answer → answer ≡ true → FedUnless stops a p q tally → FedUntil answers stops a p q tally
fed_let answers stops a p q tally answer answered is (fed, whole) = record { fed = fed; answer = answer; answered = answered; whole = λ let_in. whole; none = λ shut. absurd (cc) }

pub fed_shut : (answers stops : Bool → Type 0) (a : List SourceItem) (p q : Sending) (tally : Tally) (answer : Bool) → answers answer → answer ≡ false → q ≡ p → tally ≡ none_tallied → FedUntil answers stops a p q tally
fed_shut answers stops a p q tally answer answered is same none = subst (λ (s : Sending). FedUntil answers stops a p s tally) (sym same) (subst (λ (t : Tally). FedUntil answers stops a p p t) (sym none) (record {
  fed = record {
    tried = [];
    left = a;
    given = refl;
    offers = refl;
    same = (refl, refl);
    sent_is = sym (append-nil (sent p));
    accepted_is = refl;
    refused_is = refl;
  };
  answer = answer;
  answered = answered;
  whole = λ let_in. absurd (cc);
  none = λ shut. refl;
}))

-- a power loss that is never asked leaves nothing of a source
pub until_whole : (answers : Bool → Type 0) (a : List SourceItem) (p q : Sending) (tally : Tally) → FedUntil answers never a p q tally → FedBehind answers a p q tally
until_whole answers a p q tally f = record {
  fed = f.fed;
  answer = f.answer;
  answered = f.answered;
  whole = λ let_in. ⊎_elim (λ (done : f.fed.left ≡ []). done) (λ (asked : true ≡ false). absurd (true≢false asked)) (f.whole let_in);
  none = f.none;
}

pub run_whole : {S : Type 0} (answers : Bool → Type 0) (rest_of : S → List SourceItem) (source : Option S) (line line' : SendingLine) (tally : Tally) → HasRunUntil answers never rest_of source line line' tally → HasRunWhole answers rest_of source line line' tally
run_whole answers rest_of (Some source) line line' tally ran = (ran.0, until_whole answers (rest_of source) line.port line'.port tally ran.1)
run_whole answers rest_of None line line' tally ran = tt
