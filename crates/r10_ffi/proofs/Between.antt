-- What a handle holds that was opened.
use Rattle.std.proofs.Common.{◌≡◌, ℕ, Bool, List, Option, Some, sym, subst, ◌∙◌, ap}
use Rattle.r10_medium.specs.Disk.{Image}
use Rattle.r10_ffi.specs.Calls.{AsideHeld, FormatsHeld, IsAsideRegion, IsFormattedRegion, IsOpened, OpensOver}
use Rattle.r10_ffi.specs.declared.held.LentRecorder.{LentRecorder}

pub opened : (text : List ℕ) (image : Image) (room : ℕ) (new : Option LentRecorder) (x y : LentRecorder) → new ≡ Some x → x ≡ y → OpensOver text image room y → IsOpened text image room new
opened text image room new x y e f p = subst (IsOpened text image room) (sym (e ∙ ap (λ (h : LentRecorder). Some h) f)) p

pub formatted : (text : List ℕ) (image : Image) (new : Option LentRecorder) (x y : LentRecorder) → new ≡ Some x → x ≡ y → FormatsHeld text image y → IsFormattedRegion text image new
formatted text image new x y e f p = subst (IsFormattedRegion text image) (sym (e ∙ ap (λ (h : LentRecorder). Some h) f)) p

pub aside : (text : List ℕ) (was_open : Bool) (image : Image) (new : Option LentRecorder) (x y : LentRecorder) → new ≡ Some x → x ≡ y → AsideHeld text was_open image y → IsAsideRegion text was_open image new
aside text was_open image new x y e f p = subst (IsAsideRegion text was_open image) (sym (e ∙ ap (λ (h : LentRecorder). Some h) f)) p
