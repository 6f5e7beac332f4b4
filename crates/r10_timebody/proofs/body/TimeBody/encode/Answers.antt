use Rattle.std.proofs.Common.{◌≡◌, sym, rules}
use Rattle.r10_count.specs.Bytes.{le_bytes}
use Rattle.r10_count.specs.Civil.{IsCivil}
use Rattle.r10_timebody.specs.Time.{time_word}
use Rattle.r10_timebody.proofs.Times.{time_body-digit_bytes, IsCivil-HasDigits}
use Rattle.r10_timebody.proofs.body.TimeBody.encode.Goals as goal

pub returns : goal.returns
returns c =
    let word : c.to_le_bytes.result ≡ le_bytes 4 (time_word c.args.self.now.civil) = search rules in
    let civil : IsCivil c.args.self.now.civil = rw (← c.parts-parts.ensures.value) c.parts-parts.ensures.civil in
    rw (word, c.to_bcd.ensures, c.to_bcd-2.ensures, c.to_bcd-3.ensures, c.to_bcd-4.ensures, c.to_bcd-5.ensures, c.to_bcd-6.ensures, c.to_bcd-7.ensures, c.to_bcd-8.ensures, c.parts-parts.ensures.value)
    (sym (time_body-digit_bytes c.args.self.now.civil (IsCivil-HasDigits c.args.self.now.civil civil)))
