-- What `format` writes.
use Rattle.std.specs.Prelude.{◌≡◌, ℕ, List, Option, None, string_bytes}
use Rattle.std.specs.List.{concat}
use Rattle.std.specs.Io.KnownBytes.{Appends}
use Rattle.r10_count.specs.Checks.{first_broken}
use Rattle.r10_arguments.specs.declared.asked.FormatWords.{FormatWords}
use Rattle.r10_images.specs.Formatted.{format_rules, formatted_image}

-- the values are within their limits, and the image of the medium that is formatted so was written
abbrev pub WritesFormatted : FormatWords → Option (List ℕ) → Option (List ℕ) → Type 0
WritesFormatted format old new = (first_broken (format_rules format.blocks format.directory (string_bytes format.volume)) ≡ None)
    × Appends old new (concat (formatted_image format.blocks (string_bytes format.volume)))
