-- Civil times as a caller of another language has them.
use Rattle.r10_count.specs.declared.civil.Parts.{Parts}
use Rattle.r10_ffi.specs.declared.civil.Civil.{Civil}

abbrev pub parts_of : Civil → Parts
parts_of c = record {
  year = c.year;
  month = c.month;
  day = c.day;
  hour = c.hour;
  minute = c.minute;
  second = c.second;
  centi = c.centi;
}
