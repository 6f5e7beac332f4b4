-- Rules in order, part by part.
use Rattle.std.proofs.Common.{◌≡◌, Bool, List, ◌++◌, Option, Some, None, ◌∙◌}
use Rattle.r10_count.specs.Checks.{first_broken}
use Rattle.r10_count.proofs.Rules.{rules_pass, rules_stop}

-- four lists of rules, of which the first that doesn't hold decides
module _ {F : Type 0} (a b c d : List (Bool × F)) where
  pub stops_1 : (f : F) → first_broken a ≡ Some f → first_broken (a ++ b ++ c ++ d) ≡ Some f
  stops_1 f is = rules_stop (a ++ b ++ c) d f (rules_stop (a ++ b) c f (rules_stop a b f is))

  pub stops_2 : (f : F) → first_broken a ≡ None → first_broken b ≡ Some f → first_broken (a ++ b ++ c ++ d) ≡ Some f
  stops_2 f x is = rules_stop (a ++ b ++ c) d f (rules_stop (a ++ b) c f (rules_pass a b x ∙ is))

  pub stops_3 : (f : F) → first_broken a ≡ None → first_broken b ≡ None → first_broken c ≡ Some f → first_broken (a ++ b ++ c ++ d) ≡ Some f
  stops_3 f x y is = rules_stop (a ++ b ++ c) d f (rules_pass (a ++ b) c (rules_pass a b x ∙ y) ∙ is)

  pub ends_with : (answer : Option F) → first_broken a ≡ None → first_broken b ≡ None → first_broken c ≡ None → first_broken d ≡ answer → first_broken (a ++ b ++ c ++ d) ≡ answer
  ends_with answer x y z is = rules_pass (a ++ b ++ c) d (rules_pass (a ++ b) c (rules_pass a b x ∙ y) ∙ z) ∙ is
