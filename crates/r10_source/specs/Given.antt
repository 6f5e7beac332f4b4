-- What a source gives.
use Rattle.std.specs.Prelude.{◌≡◌, List, [], ◌∷◌}
use Rattle.r10_source.specs.declared.source.Given.{Given}
use Rattle.r10_source.specs.declared.source.Given.TheVariants as given
use Rattle.r10_source.specs.declared.source.SourceItem.{SourceItem}
use Rattle.r10_source.specs.declared.source.SourceItem.TheVariants as brings

-- the next message of what was left, or the next loss; or nothing yet, and all of it is left still; or nothing because nothing
-- was left
abbrev pub GivesNext : Given → List SourceItem → List SourceItem → Type 0
GivesNext (given.Item count message) before after = before ≡ brings.Message (record { count = count; message = message }) ∷ after
GivesNext (given.Lost lost) before after = before ≡ brings.Lost lost ∷ after
GivesNext given.Later before after = after ≡ before
GivesNext given.End before after = (before ≡ []) × (after ≡ [])
