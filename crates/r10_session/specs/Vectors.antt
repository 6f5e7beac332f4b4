-- Lines of sessions, as they stand in the examples.
use Rattle.std.specs.Prelude.{◌≡◌, true, false, List, [], ◌∷◌, codes, Ok, Err, refl}
use Rattle.std.specs.Fmt.{digits}
use Rattle.r10_body.specs.declared.refusal.Refusal.TheVariants.{NoSuchFile}
use Rattle.r10_session.specs.Text.{audit_line, feed_line, feed_lines, reader_lines}
use Rattle.r10_session.specs.declared.ended.FeedEnd.{FeedEnd}
use Rattle.r10_session.specs.declared.ended.ReaderEnd.TheVariants as ends

-- a lane of four, and six messages, of which no file took one
abbrev feed : FeedEnd
feed = record { channel = 5; accepted = 4; refused = 2; lost = 2; erased = 0; filed = 0; rest = 4 }

a_feed : feed_line feed ≡ codes "feed 5 accepted 4 refused 2 erased 0 filed 0 rest 4\n"
unfolding digits
a_feed = refl

other_feed : feed_line (record { channel = 6; accepted = 10; refused = 1; lost = 4; erased = 3; filed = 7; rest = 0 })
    ≡ codes "feed 6 accepted 10 refused 1 erased 3 filed 7 rest 0\n"
unfolding digits
other_feed = refl

-- losses stand after the line of a feed of which they are asked, and after no other
with_losses : feed_lines (false ∷ true ∷ []) 0 (feed ∷ feed ∷ [])
    ≡ codes "feed 5 accepted 4 refused 2 erased 0 filed 0 rest 4\nfeed 5 accepted 4 refused 2 erased 0 filed 0 rest 4\nlost 5 2\n"
unfolding digits
with_losses = refl

-- a reader that was refused has a number too
readers : reader_lines 0 (ends.Read 20 ∷ ends.Refused NoSuchFile ∷ ends.Read 0 ∷ [])
    ≡ codes "reader 0 entries 20\nrefused 19 NoSuchFile\nreader 2 entries 0\n"
unfolding digits
readers = refl

a_yes : audit_line (Ok true) ≡ codes "audit yes\n"
a_yes = refl

a_no : audit_line (Ok false) ≡ codes "audit no\n"
a_no = refl

none : audit_line (Err NoSuchFile) ≡ codes "refused 19 NoSuchFile\n"
unfolding digits
none = refl
