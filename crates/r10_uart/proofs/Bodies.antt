-- A UART body is a body of its form.
use Rattle.std.proofs.Common.{◌≡◌, ℕ, ◌+◌, ◌<◌, List, [], ◌∷◌, ◌++◌, length, drop, refl, sym, ap, ◌∙◌, arith}
use Rattle.std.specs.List.{flat_map, AllByRecursion, sum_by}
use Rattle.r10_count.specs.Form.{IsBody, IsForeign, FitsAll, OpensAll, SuitsAll, spelled_all, body_bytes}
use Rattle.r10_count.proofs.Bodies.{one_spelled}
use Rattle.r10_count.proofs.BodyParts.{first_is}
use Rattle.r10_count.proofs.Lengths.{sizes_from}
use Rattle.r10_count.specs.Texts.{told_size}
use Rattle.r10_count.proofs.Plain.{plain_spelled, plain_fits, plain_all}
use Rattle.r10_uart.specs.Uart.{FitsUart, IsUart, IsForeignUart, uart_body, uart_entry, uart_word, uart_entry_size}
use Rattle.r10_uart.specs.Entry.{uart_form, uart_entry-told, uart_entry-one, uart_entry-size}
use Rattle.r10_uart.specs.declared.entry.UartEntry.{UartEntry}

pub spelled_is : (before : ℕ) (es : List UartEntry) → spelled_all uart_form before es ≡ flat_map uart_entry es
spelled_is = plain_spelled uart_form uart_entry (λ before e. refl)

pub fits_are : (before : ℕ) (es : List UartEntry) → AllByRecursion FitsUart es → FitsAll uart_form before es
fits_are = plain_fits uart_form FitsUart (λ before e h. h)

pub are_fits : (before : ℕ) (es : List UartEntry) → FitsAll uart_form before es → AllByRecursion FitsUart es
are_fits = plain_all uart_form FitsUart (λ before e h. h)

pub bytes_are : (es : List UartEntry) → body_bytes uart_form 0 0 es ≡ uart_body es
bytes_are es = ap (λ t. uart_word ++ t) (spelled_is 0 es)

some_opens : (es : List UartEntry) → 0 < length es → OpensAll uart_form 0 es
some_opens [] lt = omega arith
some_opens (e ∷ es) lt = refl

opens_some : (es : List UartEntry) → OpensAll uart_form 0 es → 0 < length es
opens_some [] h = absurd h
opens_some (e ∷ es) h = omega arith

all_suit : (es : List UartEntry) → SuitsAll uart_form 0 es
all_suit [] = tt
all_suit (e ∷ es) = (refl, all_suit es)

pub body_is : (es : List UartEntry) (body : List ℕ) → IsUart es body → IsBody uart_form 0 0 es body
body_is es body is = record { opens = some_opens es is.0.0; suits = all_suit es; agrees = refl; fits = fits_are 0 es is.0.1; spelled = is.1 ∙ sym (bytes_are es) }

pub is_body : (es : List UartEntry) (body : List ℕ) → IsBody uart_form 0 0 es body → IsUart es body
is_body es body is = ((opens_some es is.opens, are_fits 0 es is.fits), is.spelled ∙ bytes_are es)

pub foreign_is : (body : List ℕ) → IsForeign uart_form body → IsForeignUart body
foreign_is body f = (f.0, f.1, f.2, f.4, f.5)

-- an entry is read from the front of bytes in one way
pub one_uart_entry : (e d : UartEntry) (x y : List ℕ) → FitsUart e → FitsUart d → uart_entry e ++ x ≡ uart_entry d ++ y → (e ≡ d) × (x ≡ y)
one_uart_entry e d x y fe fd same =
    let first = first_is 12 told_size (uart_entry e) x (uart_entry d) y (uart_entry-told e fe) (uart_entry-told d fd) same in
    (uart_entry-one e d fe fd first.0, first.1)

-- a body is made of one list of entries
pub one_uart_body : (es ds : List UartEntry) → AllByRecursion FitsUart es → AllByRecursion FitsUart ds → uart_body es ≡ uart_body ds → es ≡ ds
one_uart_body es ds fe fd same =
    one_spelled uart_form 0 es ds (fits_are 0 es fe) (fits_are 0 ds fd) (spelled_is 0 es ∙ ap (drop 4) same ∙ sym (spelled_is 0 ds))

-- a body has its word and the sizes of its entries
pub body-length : (es : List UartEntry) → length (uart_body es) ≡ 4 + sum_by uart_entry_size es
body-length es = omega (arith, sizes_from uart_entry uart_entry_size uart_entry-size 0 es)
