-- The keys of a map, as those of its table.
use Rattle.std.proofs.Common.{◌≡◌, ℕ, true, ◌||◌, List, [], ◌∷◌, map, BTreeMap, String, Global, Bor, string_bytes, refl, sym, ap, ◌∙◌}
use Rattle.std.specs.BTreeMap.{keys}
use Rattle.std.specs.List.{All, list_any}
use Rattle.std.specs.Str.{bytes_eq}
use Rattle.std.proofs.lemmas.List.Elements.{All-map}
use Rattle.toml.specs.View.{table_view, members_view}
use Rattle.toml.specs.declared.value.Value.{Value}
use Rattle.r10_script.specs.Keys.{HasOnly, keys_of}

any_text : (key : List ℕ) (known : List (Bor (List ℕ))) → list_any (λ word. bytes_eq word.now key) known ≡ list_any (λ word. bytes_eq word key) (map (λ word. word.now) known)
any_text key [] = refl
any_text key (word ∷ known) = ap (λ b. bytes_eq word.now key || b) (any_text key known)

keys_are : (entries : List (String Global × Value)) → map string_bytes (map (λ e. e.0) entries) ≡ keys_of (members_view entries)
keys_are [] = refl
keys_are (e ∷ entries) = ap (λ ks. string_bytes e.0 ∷ ks) (keys_are entries)

pub only_known : (known : List (Bor (List ℕ))) (table : BTreeMap (String Global) Value)
    → All (λ key. list_any (λ word. bytes_eq word.now (string_bytes key)) known ≡ true) (keys table) → HasOnly (map (λ word. word.now) known) (table_view table)
only_known known table all =
    let words = map (λ word. word.now) known in
    let IsKnown : List ℕ → Type 0 = λ key. list_any (λ word. bytes_eq word key) words ≡ true in
    let each : All (λ key. IsKnown (string_bytes key)) (keys table) = λ k d lt. sym (any_text _ known) ∙ all k d lt in
    rw (← keys_are table.entries) (All-map IsKnown string_bytes (keys table) each)
