-- Lines, blocks and limits written out.
use Rattle.std.specs.Prelude.{◌≡◌, ℕ, ◌++◌, List, [], ◌∷◌, Some, None, codes, replicate, refl}
use Rattle.std.specs.Fmt.{digits}
use Rattle.r10_count.specs.Checks.{first_broken}
use Rattle.r10_dirblock.specs.Texts.{dashes}
use Rattle.r10_dirblock.specs.Block.{head_bytes, entry_bytes, blank}
use Rattle.r10_dirblock.specs.Vectors.{flight, formatted_bytes}
use Rattle.r10_images.specs.Formatted.{format_rules, formatted_block}
use Rattle.r10_images.specs.Image.{image_blocks}
use Rattle.r10_images.specs.Listing.{listed_file_line, listed_file_lines, refusal_line}
use Rattle.r10_images.specs.declared.limits.Limit.TheVariants as limits

-- ---- lines

pub flight-line : listed_file_line 0 flight ≡ codes "file 0 FLT1 272 1 1\n"
unfolding digits
flight-line = refl

-- a name of `A b/c`, with a space after it; a file that is not closed
pub odd-lines : listed_file_lines 9 (record flight { name = codes "A b/c " ++ replicate 50 0; size = 68; close_time = dashes }
    ∷ blank ∷ []) ≡ codes "file 9 A?b?c 68 1 0\nfile 10  0 0 1\n"
unfolding digits
odd-lines = refl

pub refusal-line : refusal_line 64 ≡ codes "refused 26 BadDirectory 64\n"
unfolding digits
refusal-line = refl

-- ---- images

-- `VOL`
abbrev volume : List ℕ
volume = 0x56 ∷ 0x4F ∷ 0x4C ∷ []

pub the_block_of_a_formatted_medium : formatted_block volume ≡ formatted_bytes
unfolding head_bytes entry_bytes
the_block_of_a_formatted_medium = refl

pub two_blocks_and_a_rest : image_blocks (replicate 512 1 ++ (replicate 512 2 ++ (3 ∷ []))) ≡ replicate 512 1 ∷ replicate 512 2 ∷ []
two_blocks_and_a_rest = refl

pub less_than_a_block : image_blocks (replicate 511 1) ≡ []
less_than_a_block = refl

-- ---- limits

pub the_smallest : first_broken (format_rules 3 1 (0x56 ∷ [])) ≡ None
the_smallest = refl

pub the_largest : first_broken (format_rules 16777216 64 (replicate 32 0x56)) ≡ None
the_largest = refl

pub too_few_blocks : first_broken (format_rules 65 64 volume) ≡ Some limits.Blocks
too_few_blocks = refl

pub too_many_blocks : first_broken (format_rules 16777217 0 []) ≡ Some limits.Blocks
too_many_blocks = refl

pub no_directory : first_broken (format_rules 64 0 []) ≡ Some limits.Directory
no_directory = refl

pub too_large_a_directory : first_broken (format_rules 128 65 volume) ≡ Some limits.Directory
too_large_a_directory = refl

pub too_long_a_volume : first_broken (format_rules 64 2 (replicate 33 0x56)) ≡ Some limits.Volume
too_long_a_volume = refl
