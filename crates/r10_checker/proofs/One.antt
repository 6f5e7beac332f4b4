-- A file has one verdict.
use Rattle.std.proofs.Common.{◌≡◌, ℕ, List, refl, ap, ◌∙◌}
use Rattle.r10_packet_rules.proofs.OneWayApart.{one_count, one_offset, one_reason, apart_files}
use Rattle.r10_packet_rules.proofs.Written.{strict_foreign}
use Rattle.r10_checker.specs.Verdict.{IsVerdict}
use Rattle.r10_checker.specs.declared.check.Verdict.{Verdict}
use Rattle.r10_checker.specs.declared.check.Verdict.TheVariants.{Strict, Lenient, Faulty}

pub one_verdict : (bytes : List ℕ) (verdict other : Verdict) → IsVerdict bytes verdict → IsVerdict bytes other → verdict ≡ other
one_verdict bytes Strict Strict a b = refl
one_verdict bytes Strict (Lenient n) a b = absurd (b.0 a)
one_verdict bytes Strict (Faulty o f) a b = absurd (apart_files bytes 0 o f (strict_foreign bytes a) b)
one_verdict bytes (Lenient m) Strict a b = absurd (a.0 b)
one_verdict bytes (Lenient m) (Lenient n) a b = ap Lenient (one_count bytes m n a.1 b.1)
one_verdict bytes (Lenient m) (Faulty o f) a b = absurd (apart_files bytes m o f a.1 b)
one_verdict bytes (Faulty o f) Strict a b = absurd (apart_files bytes 0 o f (strict_foreign bytes b) a)
one_verdict bytes (Faulty o f) (Lenient n) a b = absurd (apart_files bytes n o f b.1 a)
one_verdict bytes (Faulty o f) (Faulty p g) a b = ap (λ x. Faulty x f) (one_offset bytes o f p g a b) ∙ ap (λ x. Faulty p x) (one_reason bytes o f p g a b)
