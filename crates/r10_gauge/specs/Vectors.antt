-- A gauge at which two triples were published.
use Rattle.std.specs.Prelude.{◌≡◌, List, [], ◌∷◌, ◌++◌, refl}
use mathlib.Core.List.{IsPrefix}
use Rattle.r10_body.specs.declared.refusal.Glance.{Glance}
use Rattle.r10_gauge.specs.Published.{triple, nothing_published, last_triple, commits_of}

-- a file is begun, and then an entry is shown
abbrev two_published : List Glance
two_published = nothing_published ++ triple 1 0 68 ∷ triple 2 0 112 ∷ []

the_last : last_triple two_published ≡ triple 2 0 112
the_last = refl

two_commits : commits_of two_published ≡ 2
two_commits = refl

none_yet : commits_of nothing_published ≡ 0
none_yet = refl

-- who saw the first has seen a beginning
a_beginning : IsPrefix (nothing_published ++ triple 1 0 68 ∷ []) two_published
a_beginning = (triple 2 0 112 ∷ [], refl)
