-- The lane of a channel among lanes that change.
use Rattle.std.proofs.Common.{◌≡◌, ℕ, Bool, true, false, cond, List, [], ◌∷◌, map, drop, Option, Some, option_map, find, refl, sym, ap, ◌∙◌, subst, ◌==◌}
use Rattle.std.proofs.lemmas.Bool.{eqb-true}
use Rattle.r10_body.specs.declared.spec.ChannelSpec.{ChannelSpec}
use Rattle.r10_machine.specs.declared.event.Event.{Event}
use Rattle.r10_machine.specs.Machine.{Lane, lane_in, is_channel, change_first}
use Rattle.r10_machine.specs.Step.{LanesAfter}
use Rattle.std.proofs.lemmas.Option.{same_Some}

same_id : (change : Lane → Lane) → ((lane : Lane) → (change lane).spec ≡ lane.spec) → (lane : Lane) (channel : ℕ) (b : Bool) → (lane.spec.id == channel) ≡ b → ((change lane).spec.id == channel) ≡ b
same_id change same lane channel b is = ap (λ (spec : ChannelSpec). spec.id == channel) (same lane) ∙ is

-- it is changed
changed_itself : (channel : ℕ) (change : Lane → Lane) → ((lane : Lane) → (change lane).spec ≡ lane.spec) → (lanes : List Lane)
    → lane_in channel (change_first (is_channel channel) change lanes) ≡ option_map change (lane_in channel lanes)
changed_itself channel change same [] = refl
changed_itself channel change same (x ∷ xs) = by (x.spec.id == channel) refl (changed_itself channel change same xs)
  where
    by : (b : Bool) → (x.spec.id == channel) ≡ b → lane_in channel (change_first (is_channel channel) change xs) ≡ option_map change (lane_in channel xs)
        → lane_in channel (cond b (change x ∷ xs) (x ∷ change_first (is_channel channel) change xs)) ≡ option_map change (cond b (Some x) (lane_in channel xs))
    by true is rest = ap (λ (b : Bool). cond b (Some (change x)) (lane_in channel xs)) (same_id change same x channel true is)
    by false is rest = ap (λ (b : Bool). cond b (Some x) (lane_in channel (change_first (is_channel channel) change xs))) is ∙ rest

pub lane_changed : (channel id : ℕ) (change : Lane → Lane) → ((lane : Lane) → (change lane).spec ≡ lane.spec) → (lanes : List Lane) → (id == channel) ≡ true
    → lane_in channel (change_first (is_channel id) change lanes) ≡ option_map change (lane_in channel lanes)
lane_changed channel id change same lanes is =
    subst (λ (i : ℕ). lane_in channel (change_first (is_channel i) change lanes) ≡ option_map change (lane_in channel lanes)) (sym (eqb-true id channel is)) (changed_itself channel change same lanes)

-- or another is
pub lane_stays : (channel id : ℕ) (change : Lane → Lane) → ((lane : Lane) → (change lane).spec ≡ lane.spec) → (lanes : List Lane) → (id == channel) ≡ false
    → lane_in channel (change_first (is_channel id) change lanes) ≡ lane_in channel lanes
lane_stays channel id change same [] other = refl
lane_stays channel id change same (x ∷ xs) other = by (x.spec.id == id) refl (lane_stays channel id change same xs other)
  where
    by : (b : Bool) → (x.spec.id == id) ≡ b → lane_in channel (change_first (is_channel id) change xs) ≡ lane_in channel xs
        → lane_in channel (cond b (change x ∷ xs) (x ∷ change_first (is_channel id) change xs)) ≡ cond (x.spec.id == channel) (Some x) (lane_in channel xs)
    by true is rest =
        let differs : (x.spec.id == channel) ≡ false = ap (λ (n : ℕ). n == channel) (eqb-true x.spec.id id is) ∙ other in
        ap (λ (b : Bool). cond b (Some (change x)) (lane_in channel xs)) (same_id change same x channel false differs)
        ∙ sym (ap (λ (b : Bool). cond b (Some x) (lane_in channel xs)) differs)
    by false is rest = ap (λ (o : Option Lane). cond (x.spec.id == channel) (Some x) o) rest

-- or all are
pub lane_mapped : (channel : ℕ) (change : Lane → Lane) → ((lane : Lane) → (change lane).spec ≡ lane.spec) → (lanes : List Lane) → lane_in channel (map change lanes) ≡ option_map change (lane_in channel lanes)
lane_mapped channel change same [] = refl
lane_mapped channel change same (x ∷ xs) = by (x.spec.id == channel) refl (lane_mapped channel change same xs)
  where
    by : (b : Bool) → (x.spec.id == channel) ≡ b → lane_in channel (map change xs) ≡ option_map change (lane_in channel xs)
        → cond ((change x).spec.id == channel) (Some (change x)) (lane_in channel (map change xs)) ≡ option_map change (cond b (Some x) (lane_in channel xs))
    by true is rest = ap (λ (b : Bool). cond b (Some (change x)) (lane_in channel (map change xs))) (same_id change same x channel true is)
    by false is rest = ap (λ (b : Bool). cond b (Some (change x)) (lane_in channel (map change xs))) (same_id change same x channel false is) ∙ rest

pub mapped_specs : (change : Lane → Lane) → ((lane : Lane) → (change lane).spec ≡ lane.spec) → (lanes : List Lane) → map (λ lane. lane.spec) (map change lanes) ≡ map (λ lane. lane.spec) lanes
mapped_specs change same [] = refl
mapped_specs change same (x ∷ xs) =
    ap (λ (spec : ChannelSpec). spec ∷ map (λ lane. lane.spec) (map change xs)) (same x) ∙ ap (λ (specs : List ChannelSpec). x.spec ∷ specs) (mapped_specs change same xs)

-- where its settings are, there is a lane
pub lane_of_spec : (channel : ℕ) (lanes : List Lane) → option_map (λ (lane : Lane). lane.spec) (lane_in channel lanes) ≡ find (λ (c : ChannelSpec). c.id == channel) (map (λ lane. lane.spec) lanes)
lane_of_spec channel [] = refl
lane_of_spec channel (x ∷ xs) = by (x.spec.id == channel) (lane_of_spec channel xs)
  where
    by : (b : Bool) → option_map (λ (lane : Lane). lane.spec) (lane_in channel xs) ≡ find (λ (c : ChannelSpec). c.id == channel) (map (λ lane. lane.spec) xs)
        → option_map (λ (lane : Lane). lane.spec) (cond b (Some x) (lane_in channel xs)) ≡ cond b (Some x.spec) (find (λ (c : ChannelSpec). c.id == channel) (map (λ lane. lane.spec) xs))
    by true rest = refl
    by false rest = rest

-- ---- a failure of the medium

-- the lane lost some of its first messages
pub record LostFront (channel : ℕ) (ends news : List Lane) (lane : Lane) : Type 0 where
  pub n : ℕ
  pub end : Lane
  pub end_is : lane_in channel ends ≡ Some end
  pub is : lane_in channel news ≡ Some (record lane { waiting = drop n lane.waiting; erased = end.erased })

pub heads : {X : Type 0} {a b : X} {xs ys : List X} → (a ∷ xs) ≡ (b ∷ ys) → (a ≡ b) × (xs ≡ ys)
heads same = (cc, cc)

pub lost_front : (channel : ℕ) (event : Event) (olds ends news : List Lane) (lane : Lane) → map (λ lane. lane.spec) ends ≡ map (λ lane. lane.spec) olds → LanesAfter event olds ends news
    → lane_in channel olds ≡ Some lane → LostFront channel ends news lane
lost_front channel event [] [] [] lane same after there = cc
lost_front channel event (old ∷ olds) (end ∷ ends) (new ∷ news) lane same ((n, most, is), after) there =
    let specs = heads same in
    by (old.spec.id == channel) refl there (λ there. lost_front channel event olds ends news lane specs.1 after there)
  where
    later : (ends news : List Lane) (end new : Lane) → (end.spec.id == channel) ≡ false → (new.spec.id == channel) ≡ false → LostFront channel ends news lane → LostFront channel (end ∷ ends) (new ∷ news) lane
    later ends news end new one two lost = record {
      n = lost.n;
      end = lost.end;
      end_is = ap (λ (b : Bool). cond b (Some end) (lane_in channel ends)) one ∙ lost.end_is;
      is = ap (λ (b : Bool). cond b (Some new) (lane_in channel news)) two ∙ lost.is;
    }

    by : (b : Bool) → (old.spec.id == channel) ≡ b → cond b (Some old) (lane_in channel olds) ≡ Some lane → (lane_in channel olds ≡ Some lane → LostFront channel ends news lane)
        → LostFront channel (end ∷ ends) (new ∷ news) lane
    by true here there rest =
        let end_here : (end.spec.id == channel) ≡ true = ap (λ (spec : ChannelSpec). spec.id == channel) (heads same).0 ∙ here in
        let new_here : (new.spec.id == channel) ≡ true = ap (λ (l : Lane). l.spec.id == channel) is ∙ here in
        record {
          n = n;
          end = end;
          end_is = ap (λ (b : Bool). cond b (Some end) (lane_in channel ends)) end_here;
          is = ap (λ (b : Bool). cond b (Some new) (lane_in channel news)) new_here ∙ ap Some is
              ∙ ap (λ (l : Lane). Some (record l { waiting = drop n l.waiting; erased = end.erased })) (same_Some _ _ there);
        }
    by false here there rest =
        later ends news end new (ap (λ (spec : ChannelSpec). spec.id == channel) (heads same).0 ∙ here) (ap (λ (l : Lane). l.spec.id == channel) is ∙ here) (rest there)
lost_front channel event olds ends news lane same after there = absurd after
