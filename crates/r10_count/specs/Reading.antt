-- What the reading of a body says of it.
use Rattle.r10_count.specs.declared.reading.Reading.{Reading}
use Rattle.r10_count.specs.declared.reading.Reading.TheVariants.{Strict, Lenient, Neither}

-- of what the writer may say, the body says this; or it is another writer's, and the writer says nothing so; or it is no body
-- at all
abbrev pub ReadsBody : {T : Type 0} → (T → Type 0) → Type 0 → Reading T → Type 0
ReadsBody IsStrict IsForeign (Strict said) = IsStrict said
ReadsBody {T} IsStrict IsForeign Lenient = IsForeign × ((said : T) → IsStrict said → ⊥)
ReadsBody IsStrict IsForeign Neither = IsForeign → ⊥
