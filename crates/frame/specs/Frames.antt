-- The images that frames mean.
use Rattle.frame.specs.Image.{Image}
use Rattle.frame.specs.Layout.{planes, packed, flat}
use Rattle.frame.specs.Relabel.{relabelled}
use Rattle.frame.specs.declared.planar.Planar.{Planar}
use Rattle.frame.specs.declared.packed.Packed.{Packed}
use Rattle.frame.specs.declared.field.Field.{Field}
use Rattle.frame.specs.declared.readable.Readable.{Ghosts}
use Rattle.frame.specs.declared.relabelled.Relabelled.{Relabelled}

-- the image of a planar frame
abbrev pub planar_of : Planar → Image
planar_of frame = planes frame.size frame.words.items

-- the image of a byte frame
abbrev pub packed_of : Packed → Image
packed_of frame = packed frame.size frame.bytes.items

-- the image of a field
abbrev pub field_of : Field → Image
field_of frame = flat frame.size frame.words.items

-- the image of a relabelled frame, over a frame whose meaning is `meaning.image`
abbrev pub relabelled_of : {F : Type 0} {meaning : Ghosts F} → Relabelled F meaning → Image
relabelled_of {meaning = meaning} frame = relabelled frame.labels (meaning.image frame.below)
