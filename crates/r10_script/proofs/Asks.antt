-- One table more, and what it asks for.
use Rattle.std.proofs.Common.{◌≡◌, ◌+◌, ◌<◌, ℕ, List, [], ◌∷◌, ◌++◌, length, map, take, Some, get_or, IsSomeAnd, sym, ◌∙◌, ap}
use Rattle.std.proofs.lemmas.List.{map_more}
use Rattle.toml.specs.Data.{Data, Members, as_table}
use Rattle.toml.specs.View.{view}
use Rattle.toml.specs.declared.value.Value.{Value}
use Rattle.r10_script.specs.Script.{EachAsks}

asks_push : {A : Type 0} (Asks : Members → A → Type 0) (ds : List Data) (xs : List A) (d : Data) (x : A) → IsSomeAnd (as_table d) (λ table. Asks table x)
    → EachAsks Asks ds xs → EachAsks Asks (ds ++ d ∷ []) (xs ++ x ∷ [])
asks_push Asks [] [] d x asks each = (asks, tt)
asks_push Asks (e ∷ ds) (y ∷ xs) d x asks each = (each.0, asks_push Asks ds xs d x asks each.1)
asks_push Asks [] (y ∷ xs) d x asks each = absurd each
asks_push Asks (e ∷ ds) [] d x asks each = absurd each

pub asks_more : {A : Type 0} (Asks : Members → A → Type 0) (values : List Value) (i : ℕ) (value : Value) (xs : List A) (x : A) (table : Members)
    → i < length values → value ≡ get_or values i value → as_table (view value) ≡ Some table → Asks table x
    → EachAsks Asks (map view (take i values)) xs → EachAsks Asks (map view (take (i + 1) values)) (xs ++ x ∷ [])
asks_more Asks values i value xs x table inside there found asks each =
    let one : map view (take (i + 1) values) ≡ map view (take i values) ++ view value ∷ [] =
    map_more view values i value inside ∙ ap (λ v. map view (take i values) ++ view v ∷ []) (sym there) in
    let last : IsSomeAnd (as_table (view value)) (λ t. Asks t x) = rw found asks in
    rw one (asks_push Asks (map view (take i values)) xs (view value) x last each)
