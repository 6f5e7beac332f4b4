-- Orders, asked one after the other.
use Rattle.std.proofs.Common.{◌≡◌, ℕ, ◌+◌, ◌<◌, ◌≤◌, List, [], ◌∷◌, ◌++◌, length, drop, get_or, append_assoc, refl, sym, ap, subst, ◌∙◌}
use Rattle.std.proofs.lemmas.List.{append-nil, drop_all, drop_more}
use Rattle.r10_machine.specs.declared.reply.Reply.{Reply}
use Rattle.r10_medium.specs.Disk.{Disk}
use Rattle.r10_session.specs.Answered.{Answered, Answers}
use Rattle.r10_shared.specs.Recorder.{HeldState}
use Rattle.r10_shared.specs.declared.order.Order.{Order}

-- whatever is answered to the orders from a place on, after these it is what is answered to all
abbrev pub AnsweredTo : {M : Type 0} → (M → Disk) → HeldState M → List Order → ℕ → List Reply → HeldState M → Type 0
AnsweredTo {M} disk first orders place replies now = (rs : List Reply) (end : HeldState M) → Answered disk now (drop place orders) rs end → Answered disk first orders (replies ++ rs) end

module _ {M : Type 0} (disk : M → Disk) (first : HeldState M) (orders : List Order) where
  pub one_asked : (place : ℕ) (replies : List Reply) (now next : HeldState M) (order : Order) (reply : Reply) → AnsweredTo disk first orders place replies now → place < length orders → order ≡ get_or orders place order
      → Answers disk now order reply next → AnsweredTo disk first orders (place + 1) (replies ++ reply ∷ []) next
  one_asked place replies now next order reply so within here answers rs end rest =
      let split : drop place orders ≡ order ∷ drop (place + 1) orders = drop_more orders place order within ∙ ap (λ (o : Order). o ∷ drop (place + 1) orders) (sym here) in
      subst (λ (l : List Reply). Answered disk first orders l end) (sym (append_assoc replies (reply ∷ []) rs))
      (so (reply ∷ rs) end (subst (λ (l : List Order). Answered disk now l (reply ∷ rs) end) (sym split) (next, answers, rest)))

  pub all_asked : (place : ℕ) (replies : List Reply) (now : HeldState M) → AnsweredTo disk first orders place replies now → length orders ≤ place → Answered disk first orders replies now
  all_asked place replies now so done =
      subst (λ (l : List Reply). Answered disk first orders l now) (append-nil replies) (so [] now (subst (λ (l : List Order). Answered disk now l [] now) (sym (drop_all place orders done)) refl))

  pub none_asked : (replies : List Reply) → replies ≡ [] → AnsweredTo disk first orders 0 replies first
  none_asked replies none rs end rest = subst (λ (l : List Reply). Answered disk first orders (l ++ rs) end) (sym none) rest
