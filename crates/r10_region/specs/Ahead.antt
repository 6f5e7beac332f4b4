-- The links that were taken out, and not yet their rings.
use Rattle.std.specs.Prelude.{List, [], ◌∷◌, Option, None, Some}
use Rattle.r10_region.specs.declared.link.Link.{Link}
use Rattle.r10_region.specs.declared.ahead.Ahead.{Ahead}

abbrev pub links_ahead : Option Ahead → List Link
links_ahead None = []
links_ahead (Some a) = a.was.value ∷ []
