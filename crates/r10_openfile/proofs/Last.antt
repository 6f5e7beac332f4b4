-- The last file of a directory.
use Rattle.std.specs.Option.{UnwrapsOrElse}
use Rattle.std.proofs.Common.{◌≡◌, List, [], ◌∷◌, Option, None, Some, refl, sym, ap}
use Rattle.std.specs.List.{last_or}
use Rattle.r10_dirblock.specs.declared.entry.Entry.{Entry}
use Rattle.r10_dirblock.specs.Block.{blank}
use Rattle.r10_dirchain.specs.Chain.{listed_files}
use Rattle.r10_dirchain.specs.Steps.{entry_or_blank, last_listed}
use Rattle.r10_dirchain.specs.declared.chain.ChainBlock.{ChainBlock}

-- with another where there is none
last_found : (d e : Entry) (l : List Entry) → last_or None l ≡ Some e → Some e ≡ last_or (Some d) l
last_found d e [] is = absurd (cc)
last_found d e (x ∷ l) is = sym is

some_last : (x : Entry) (l : List Entry) → last_or (Some x) l ≡ None → ⊥
some_last x [] is = cc
some_last x (y ∷ l) is = some_last y l is

none_last : (d : Entry) (l : List Entry) → last_or None l ≡ None → Some d ≡ last_or (Some d) l
none_last d [] is = refl
none_last d (x ∷ l) is = absurd (some_last x l is)

-- the last, or one of zero bytes
pub last_or_blank : (o : Option Entry) (e : Entry) (l : List Entry) → o ≡ last_or None l → UnwrapsOrElse o (λ x. x ≡ blank) e → Some e ≡ last_or (Some blank) l
last_or_blank None e l is given = rw given (none_last blank l (sym is))
last_or_blank (Some x) e l is given = rw given (last_found blank x l (sym is))

-- its entry, as a search comes to it
pub last_is : (chain : List ChainBlock) (e : Entry) → Some e ≡ last_or (Some blank) (listed_files chain) → e ≡ last_listed chain
last_is chain e is = picked (listed_files chain) e is
  where
    picked : (l : List Entry) (e : Entry) → Some e ≡ last_or (Some blank) l → e ≡ entry_or_blank (last_or None l)
    picked [] e is = ap entry_or_blank is
    picked (x ∷ l) e is = ap entry_or_blank is
