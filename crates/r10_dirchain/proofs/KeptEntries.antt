-- Entries that stay in a block stay byte for byte.
use Rattle.std.proofs.Common.{◌≡◌, ℕ, zero, suc, ◌*◌, ◌≤◌, List, [], ◌∷◌, ◌++◌, length, take, drop, refl, sym, ap, ◌∙◌, arith, append_assoc, length-append}
use Rattle.std.specs.List.{flat_map, All}
use Rattle.std.proofs.Math.Seq.{take-append-add}
use Rattle.std.proofs.lemmas.List.{drop_at}
use Rattle.std.proofs.lemmas.List.Elements.{All-head, All-tail}
use Rattle.r10_dirblock.specs.declared.entry.Entry.{Entry}
use Rattle.r10_dirblock.specs.declared.block.DirBlock.{DirBlock}
use Rattle.r10_dirblock.specs.Block.{head_bytes, entry_bytes, IsBlock, FitsHead, FitsEntry}
use Rattle.r10_dirblock.proofs.Again.{length-entry_bytes}

length-head_bytes : (revision : ℕ) (d : DirBlock) → FitsHead d → length (head_bytes revision d) ≡ 64
unfolding head_bytes
length-head_bytes revision d fits = simp length-append (omega (arith, fits.volume))

front_entries : (k : ℕ) (entries : List Entry) (more : List ℕ) → All FitsEntry entries → k ≤ length entries
    → take (112 * k) (flat_map entry_bytes entries ++ more) ≡ flat_map entry_bytes (take k entries)
front_entries zero entries more fits le = refl
front_entries (suc k) [] more fits le = absurd (omega (arith, le))
front_entries (suc k) (e ∷ entries) more fits le =
    ap (λ (l : List ℕ). take (112 * suc k) l) (append_assoc (entry_bytes e) (flat_map entry_bytes entries) more)
    ∙ ap (λ (n : ℕ). take n (entry_bytes e ++ (flat_map entry_bytes entries ++ more))) (omega (arith, length-entry_bytes e (All-head FitsEntry e entries fits)))
    ∙ take-append-add (entry_bytes e) (flat_map entry_bytes entries ++ more) (112 * k)
    ∙ ap (λ (l : List ℕ). entry_bytes e ++ l) (front_entries k entries more (All-tail FitsEntry e entries fits) (omega (arith, le)))

front_bytes : (bytes : List ℕ) (d : DirBlock) (k : ℕ) → IsBlock bytes d → k ≤ length d.entries → take (112 * k) (drop 64 bytes) ≡ flat_map entry_bytes (take k d.entries)
front_bytes bytes d k is le =
    ap (λ (l : List ℕ). take (112 * k) (drop 64 l)) (is.spelled ∙ append_assoc (head_bytes is.revision d) (flat_map entry_bytes d.entries) is.unused)
    ∙ ap (λ (l : List ℕ). take (112 * k) l) (drop_at (head_bytes is.revision d) (flat_map entry_bytes d.entries ++ is.unused) 64 (length-head_bytes is.revision d is.head))
    ∙ front_entries k d.entries is.unused is.entries le

pub kept_bytes : (old new : List ℕ) (d e : DirBlock) (k : ℕ) → IsBlock old d → IsBlock new e → k ≤ length d.entries → k ≤ length e.entries → take k d.entries ≡ take k e.entries
    → take (112 * k) (drop 64 new) ≡ take (112 * k) (drop 64 old)
kept_bytes old new d e k a b le more same =
    front_bytes new e k b more ∙ ap (λ (l : List Entry). flat_map entry_bytes l) (sym same) ∙ sym (front_bytes old d k a le)
