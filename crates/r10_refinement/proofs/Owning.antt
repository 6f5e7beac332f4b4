-- Which of the machine's files are the recorder's own, through its steps.
use Rattle.std.proofs.Common.{◌≡◌, ◌⊎◌, ℕ, suc, ◌+◌, inl, inr, Bool, true, false, List, [], ◌∷◌, ◌++◌, length, map, replicate, Option, None, Some, refl, sym, ap, ◌∙◌, append_assoc}
use Rattle.std.specs.Option.{option_or}
use Rattle.std.proofs.lemmas.List.{append-nil, map-append, replicate_more}
use Rattle.r10_machine.specs.Machine.{File}
use Rattle.r10_refinement.specs.KeptState.{unmounted}
use Rattle.r10_refinement.specs.Means.{OwnFilesAre, OwnFollow}

abbrev flags_of : List File → List Bool
flags_of files = map (λ (f : File). f.own) files

-- where the last file changes and stays whose it was
flags_last : (files : List File) (f g : File) → g.own ≡ f.own → flags_of (files ++ g ∷ []) ≡ flags_of (files ++ f ∷ [])
flags_last [] f g same = ap (λ (b : Bool). b ∷ []) same
flags_last (x ∷ files) f g same = ap (λ (l : List Bool). x.own ∷ l) (flags_last files f g same)

pub last_follows : (found : Option ℕ) (files later : List File) (f g : File) → g.own ≡ f.own → later ≡ files ++ f ∷ [] → OwnFollow found later → OwnFollow found (files ++ g ∷ [])
last_follows found files later f g same is follow = record {
  number = follow.number;
  own = follow.own;
  found_is = follow.found_is;
  flags = flags_last files f g same ∙ sym (ap flags_of is) ∙ follow.flags;
}

-- with one more that is its own
pub begun_follows : (found : Option ℕ) (files : List File) (g : File) → g.own ≡ true → OwnFollow found files → OwnFollow found (files ++ g ∷ [])
begun_follows found files g own follow = record {
  number = follow.number;
  own = follow.own + 1;
  found_is = follow.found_is;
  flags = map-append (λ (f : File). f.own) files (g ∷ []) ∙ ap (λ (b : Bool). flags_of files ++ b ∷ []) own ∙ ap (λ (l : List Bool). l ++ true ∷ []) follow.flags
      ∙ append_assoc (replicate follow.number false) (replicate follow.own true) (true ∷ []) ∙ ap (λ (l : List Bool). replicate follow.number false ++ l) (replicate_more follow.own true);
}

-- a first mount finds all of them, and a later one those that were found
pub mounted_follows : (found : Option ℕ) (files : List File) (listed : ℕ) → listed ≡ length files → OwnFilesAre unmounted found files → OwnFollow (option_or found (Some listed)) files
mounted_follows found files listed all (inl none) = record {
  number = listed;
  own = 0;
  found_is = ap (λ (o : Option ℕ). option_or o (Some listed)) none.0;
  flags = none.1 ∙ ap (λ (n : ℕ). replicate n false) (sym all) ∙ sym (append-nil (replicate listed false));
}
mounted_follows found files listed all (inr follow) = record {
  number = follow.number;
  own = follow.own;
  found_is = ap (λ (o : Option ℕ). option_or o (Some listed)) follow.found_is;
  flags = follow.flags;
}

pub none_follow : OwnFollow (Some 0) []
none_follow = record { number = 0; own = 0; found_is = refl; flags = refl }
