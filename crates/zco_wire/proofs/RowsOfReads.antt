-- What is asked of an object, worked out.
use Rattle.std.proofs.Common.{◌≡◌, List, [], ◌∷◌, refl}
use Rattle.sdr_base.specs.Media.{no_files}
use Rattle.sdr_base.specs.ZcoObjects.{ObjectRow}
use Rattle.sdr_base.specs.declared.account.Acct.TheVariants as accts
use Rattle.sdr_model.specs.Pieces.{bytes_by}
use Rattle.sdr_model.specs.declared.piece.Piece.{Piece}
use Rattle.sdr_model.specs.declared.piece.Piece.TheVariants as pieces
use Rattle.zco_wire.specs.Reading.{asked_headers, asked_source, asked_trailers, asked_wire, moved_by}

-- an object with a header and a trailer, whose one extent has six bytes, of which the middle four are its part
abbrev one : ObjectRow
one = record {
  account = accts.Inbound;
  headers = record { addr = 8; text = 1 ∷ 2 ∷ [] } ∷ [];
  extents = record { addr = 16; source = 24; offset = 0; length = 6 } ∷ [];
  trailers = record { addr = 32; text = 9 ∷ [] } ∷ [];
  part_offset = 1;
  part_length = 4;
}

-- its extent's bytes
abbrev six : List Piece
six = pieces.Known (72 ∷ 65 ∷ 66 ∷ 67 ∷ 68 ∷ 84 ∷ []) ∷ []

-- the bytes before the part, of it and behind it
before : bytes_by no_files (asked_headers 0 9 one six) ≡ 72 ∷ []
before = refl

within : bytes_by no_files (asked_source 0 9 one six) ≡ 65 ∷ 66 ∷ 67 ∷ 68 ∷ []
within = refl

behind : bytes_by no_files (asked_trailers 0 9 one six) ≡ 84 ∷ []
behind = refl

-- from a place inside, and none past the end
from_inside : bytes_by no_files (asked_source 3 1 one six) ≡ 67 ∷ []
from_inside = refl

past_the_part : asked_source 5 9 one six ≡ []
past_the_part = refl

past_the_headers : asked_headers 1 9 one six ≡ []
past_the_headers = refl

past_the_end : asked_trailers 6 9 one six ≡ []
past_the_end = refl

-- on the wire: over all three, and from a place on
all_of_it : bytes_by no_files (asked_wire 0 64 one six) ≡ 1 ∷ 2 ∷ 72 ∷ 65 ∷ 66 ∷ 67 ∷ 68 ∷ 84 ∷ 9 ∷ []
all_of_it = refl

three_of_it : bytes_by no_files (asked_wire 1 3 one six) ≡ 2 ∷ 72 ∷ 65 ∷ []
three_of_it = refl

no_byte_of_it : asked_wire 9 64 one six ≡ []
no_byte_of_it = refl

-- a file has fewer bytes than are asked of it
abbrev bare : ObjectRow
bare = record one { headers = []; trailers = [] }

of_a_file : bytes_by (record { files = λ path. 87 ∷ 88 ∷ []; items = λ item. [] }) (asked_wire 0 64 bare (pieces.File (100 ∷ []) 0 4 ∷ []))
    ≡ 87 ∷ 88 ∷ []
of_a_file = refl

-- a reader stands behind what was given, and stays where there was nothing
moves : moved_by 1 4 (record { object = 8; place = 0 }) ≡ record { object = 8; place = 5 }
moves = refl

stays : moved_by 5 0 (record { object = 8; place = 0 }) ≡ record { object = 8; place = 0 }
stays = refl
