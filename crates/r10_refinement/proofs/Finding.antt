-- Files that are found again.
use Rattle.std.proofs.Common.{◌≡◌, false, List, [], ◌∷◌, length, map, refl, sym, ap, ◌∙◌, subst, arith}
use Rattle.std.proofs.lemmas.List.{take_all}
use Rattle.std.specs.Prelude.{◌+◌, ◌≤◌}
use Rattle.r10_blockout.specs.Blocks.{bytes_from}
use Rattle.r10_body.specs.Files.{FileSays, on_channel}
use Rattle.r10_body.specs.Packets.{file_entries}
use Rattle.r10_body.specs.declared.entry.Entry.{Entry}
use Rattle.r10_machine.specs.Config.{Config}
use Rattle.r10_machine.specs.Machine.{File, shown_entries}
use Rattle.r10_machine.specs.Room.{blocks_of}
use Rattle.r10_machine.specs.Needs.{shown_part}
use Rattle.r10_medium.specs.Disk.{Image}
use Rattle.r10_machine.specs.Says.{DirectoryEntry, AreFound, IsFound, Lists, MediumSays, SaysEach, SaysFile}
use Rattle.r10_machine.proofs.Steps.{same_heads}
use Rattle.r10_refinement.specs.Again.{AreAgain, FindsAgain, IsAgain}

abbrev found_of : (f : File) → List Entry → File
found_of f entries = record f { entries = entries; shown = length entries; own = false }

record Found (image : Image) (entries : List DirectoryEntry) (files : List File) : Type 0 where
  again : List File
  says : SaysEach image entries again
  found : AreFound image again
  same : AreAgain files again

one_found : (image : Image) (e : DirectoryEntry) (f : File) → Lists f e → (says : SaysFile image f)
    → Lists (found_of f (file_entries says.says.0)) e × SaysFile image (found_of f (file_entries says.says.0)) × IsFound image (found_of f (file_entries says.says.0)) × IsAgain f (found_of f (file_entries says.says.0))
one_found image e f lists says =
    let packets = says.says.0 in
    let entries = file_entries packets in
    let all : shown_entries (found_of f entries) ≡ entries = take_all (length entries) entries (omega arith) in (
      record { name = lists.name; first_block = lists.first_block; block_count = lists.block_count; size = lists.size; closed = lists.closed },
      record {
        inside = says.inside;
        says = (
          packets,
          says.says.1,
          record {
            file = says.says.2.file;
            setup_is = says.says.2.setup_is;
            entries_are = λ channel. ap (λ (es : List Entry). on_channel channel es) (sym all);
            closed_is = says.says.2.closed_is;
          },
        );
      },
      record { packets = packets; bytes_are = says.says.1; each = says.says.2.file.each; entries_are = refl; shown = refl; own = refl },
      record { name = refl; setup = refl; first_block = refl; size = refl; closed = refl; entries = says.says.2.entries_are; shown = refl; own = refl },
    )

each_found : (image : Image) (entries : List DirectoryEntry) (files : List File) → SaysEach image entries files → Found image entries files
each_found image [] [] says = record { again = []; says = tt; found = tt; same = tt }
each_found image (e ∷ entries) (f ∷ files) (lists, said, rest) =
    let more = each_found image entries files rest in
    let one = one_found image e f lists said in
    record {
      again = found_of f (file_entries said.says.0) ∷ more.again;
      says = (one.0, one.1, more.says);
      found = (one.2, more.found);
      same = (one.3, more.same);
    }
each_found image entries files says = absurd says

pub found_again : (s : Config) (image : Image) (files : List File) → MediumSays s image files → FindsAgain s image files
found_again s image files says =
    let all = each_found image _ files says.each in
    record {
      again = all.again;
      has = (record { blocks = says.blocks; chain = says.chain; directory = says.directory; mounts = says.mounts; each = all.says }, all.found);
      same = all.same;
    }

-- ---- what says files says them as they are found again

again_one : (image : Image) (e : DirectoryEntry) (f again : File) → IsAgain f again → Lists f e → SaysFile image f → Lists again e × SaysFile image again
again_one image e f again is lists said =
    let all : shown_entries again ≡ again.entries = take_all again.shown again.entries (omega (arith, is.shown)) in (
      record {
        name = lists.name ∙ sym is.name;
        first_block = lists.first_block ∙ sym is.first_block;
        block_count = lists.block_count ∙ ap blocks_of (sym is.size);
        size = lists.size ∙ sym is.size;
        closed = lists.closed ∙ sym is.closed;
      },
      record {
        inside = rw (is.first_block, is.size) said.inside;
        says = rw (is.first_block, is.size, is.setup, is.closed) (
          said.says.0,
          said.says.1,
          record {
            file = said.says.2.file;
            setup_is = said.says.2.setup_is;
            entries_are = λ channel. said.says.2.entries_are channel ∙ sym (is.entries channel) ∙ ap (λ (es : List Entry). on_channel channel es) (sym all);
            closed_is = said.says.2.closed_is;
          },
        );
      },
    )

again_each : (image : Image) (entries : List DirectoryEntry) (files again : List File) → AreAgain files again → SaysEach image entries files → SaysEach image entries again
again_each image [] [] [] are says = tt
again_each image (e ∷ entries) (f ∷ files) (g ∷ again) (is, are) (lists, said, rest) =
    let one = again_one image e f g is lists said in
    (one.0, one.1, again_each image entries files again are rest)
again_each image entries [] (g ∷ again) are says = absurd are
again_each image entries (f ∷ files) [] are says = absurd are
again_each image [] (f ∷ files) again are says = absurd says
again_each image (e ∷ entries) [] again are says = absurd says

pub again_said : (s : Config) (image : Image) (files again : List File) → AreAgain files again → MediumSays s image files → MediumSays s image again
again_said s image files again are says =
    record { blocks = says.blocks; chain = says.chain; directory = says.directory; mounts = says.mounts; each = again_each image _ files again are says.each }

-- ---- what is shown

same_said : (image : Image) (e : DirectoryEntry) (f g : File) → shown_part f ≡ shown_part g → Lists f e × SaysFile image f → Lists g e × SaysFile image g
same_said image e f g same (lists, said) = (
  record {
    name = lists.name ∙ ap (λ (p : File). p.name) same;
    first_block = lists.first_block ∙ ap (λ (p : File). p.first_block) same;
    block_count = lists.block_count ∙ ap (λ (p : File). blocks_of p.size) same;
    size = lists.size ∙ ap (λ (p : File). p.size) same;
    closed = lists.closed ∙ ap (λ (p : File). p.closed) same;
  },
  record {
    inside = subst (λ (p : File). p.first_block + blocks_of p.size ≤ length image) same said.inside;
    says = subst (λ (p : File). FileSays (bytes_from image p.first_block p.size) p.setup p.entries p.closed) same said.says;
  },
)

each_said : (image : Image) (entries : List DirectoryEntry) (files others : List File) → map shown_part files ≡ map shown_part others → SaysEach image entries files → SaysEach image entries others
each_said image [] [] [] same says = tt
each_said image [] [] (g ∷ others) same says = cc
each_said image (e ∷ entries) (f ∷ files) [] same says = cc
each_said image (e ∷ entries) (f ∷ files) (g ∷ others) same (lists, said, rest) =
    let parts = same_heads f g files others same in
    let one = same_said image e f g parts.0 (lists, said) in
    (one.0, one.1, each_said image entries files others parts.1 rest)
each_said image entries files others same says = absurd says

pub parts_said : (s : Config) (image : Image) (files others : List File) → map shown_part files ≡ map shown_part others → MediumSays s image files → MediumSays s image others
parts_said s image files others same says =
    record { blocks = says.blocks; chain = says.chain; directory = says.directory; mounts = says.mounts; each = each_said image _ files others same says.each }
