-- A small world, a bundle whose bytes are a file's, and the blocks that keep it, byte by byte.
use Rattle.std.specs.Prelude.{ℕ, List, [], ◌∷◌, false}
use Rattle.std.specs.FinMap as finite
use Rattle.sdr_base.specs.Entries.{Entries}
use Rattle.sdr_base.specs.declared.account.Acct.TheVariants as accts
use Rattle.sdr_base.specs.declared.kind.Kind.TheVariants as kinds
use Rattle.sdr_model.specs.World.{World, fresh_world}
use Rattle.sdr_model.specs.declared.things.SdrList.{SdrList}
use Rattle.sdr_model.specs.declared.things.Thing.{Thing}
use Rattle.sdr_model.specs.declared.things.Thing.TheVariants as things
use Rattle.sdr_model.specs.declared.zco.Subject.TheVariants as subjects
use Rattle.sdr_model.specs.declared.zco.ZcoObject.{ZcoObject}
use Rattle.sdr_model.specs.declared.zco.ZcoSource.{ZcoSource}

-- a list with the user's number 7, of one element, which names the string at 2056
abbrev pub bundle_list : SdrList
bundle_list = record { user = 7; elements = record { block = 2112; datum = 2056 } ∷ [] }

-- ten bytes of the file data.bin
abbrev pub bundle_source : ZcoSource
bundle_source = record {
  subject = subjects.File (100 ∷ 97 ∷ 116 ∷ 97 ∷ 46 ∷ 98 ∷ 105 ∷ 110 ∷ []);
  length = 10;
  flagged = false;
}

-- an outbound object of all of them, behind the header H1:
abbrev pub bundle_object : ZcoObject
bundle_object = record {
  account = accts.Outbound;
  headers = record { block = 2400; text = 72 ∷ 49 ∷ 58 ∷ [] } ∷ [];
  extents = record { block = 2360; source = 2216; offset = 0; length = 10 } ∷ [];
  trailers = [];
  part = record { offset = 0; length = 10 };
}

-- the string hello at 2056, the list at 2072, the source at 2216, and the object at 2280
abbrev pub bundle_things : List (ℕ × Thing)
bundle_things =
    (2056, things.Text (104 ∷ 101 ∷ 108 ∷ 108 ∷ 111 ∷ []))
    ∷ (2072, things.List bundle_list)
    ∷ (2216, things.Source bundle_source)
    ∷ (2280, things.Object bundle_object)
    ∷ []

-- these things, and the list under the name mail, of type 3, in a heap of 1,024 lines
abbrev pub bundle_world : World
bundle_world = record (fresh_world 32768) {
  things = finite.from_sorted bundle_things;
  names = record { block = 2152; name = 109 ∷ 97 ∷ 105 ∷ 108 ∷ []; kind = 3; object = 2072 } ∷ [];
}

-- the blocks that keep it, in the order of its things: the string; the list and its element; the source; the object, its
-- header and its extent; the name
abbrev pub bundle_entries : Entries
bundle_entries = (
  2056,
  record {
    kind = kinds.Text;
    bytes =
        5 ∷ 104 ∷ 101 ∷ 108 ∷ 108 ∷ 111 ∷ [];
  },
)
    ∷ (
      2072,
      record {
        kind = kinds.List;
        bytes =
            0 ∷ 0 ∷ 0 ∷ 0 ∷ 0 ∷ 0 ∷ 0 ∷ 7
            ∷ 0 ∷ 0 ∷ 0 ∷ 0 ∷ 0 ∷ 0 ∷ 0 ∷ 1
            ∷ 0 ∷ 0 ∷ 0 ∷ 0 ∷ 0 ∷ 0 ∷ 8 ∷ 64
            ∷ 0 ∷ 0 ∷ 0 ∷ 0 ∷ 0 ∷ 0 ∷ 8 ∷ 64 ∷ [];
      },
    )
    ∷ (
      2112,
      record {
        kind = kinds.Element;
        bytes =
            0 ∷ 0 ∷ 0 ∷ 0 ∷ 0 ∷ 0 ∷ 8 ∷ 24
            ∷ 0 ∷ 0 ∷ 0 ∷ 0 ∷ 0 ∷ 0 ∷ 0 ∷ 0
            ∷ 0 ∷ 0 ∷ 0 ∷ 0 ∷ 0 ∷ 0 ∷ 0 ∷ 0
            ∷ 0 ∷ 0 ∷ 0 ∷ 0 ∷ 0 ∷ 0 ∷ 8 ∷ 8 ∷ [];
      },
    )
    ∷ (
      2216,
      record {
        kind = kinds.Source;
        bytes =
            0 ∷ 0 ∷ 0 ∷ 0 ∷ 0 ∷ 0 ∷ 0 ∷ 1
            ∷ 0 ∷ 0 ∷ 0 ∷ 0 ∷ 0 ∷ 0 ∷ 0 ∷ 0
            ∷ 0 ∷ 0 ∷ 0 ∷ 0 ∷ 0 ∷ 0 ∷ 0 ∷ 0
            ∷ 0 ∷ 0 ∷ 0 ∷ 0 ∷ 0 ∷ 0 ∷ 0 ∷ 1
            ∷ 0 ∷ 0 ∷ 0 ∷ 0 ∷ 0 ∷ 0 ∷ 0 ∷ 0
            ∷ 0 ∷ 0 ∷ 0 ∷ 0 ∷ 0 ∷ 0 ∷ 0 ∷ 10
            ∷ 100 ∷ 97 ∷ 116 ∷ 97 ∷ 46 ∷ 98 ∷ 105 ∷ 110 ∷ [];
      },
    )
    ∷ (
      2280,
      record {
        kind = kinds.Object;
        bytes =
            0 ∷ 0 ∷ 0 ∷ 0 ∷ 0 ∷ 0 ∷ 0 ∷ 1
            ∷ 0 ∷ 0 ∷ 0 ∷ 0 ∷ 0 ∷ 0 ∷ 9 ∷ 56
            ∷ 0 ∷ 0 ∷ 0 ∷ 0 ∷ 0 ∷ 0 ∷ 9 ∷ 56
            ∷ 0 ∷ 0 ∷ 0 ∷ 0 ∷ 0 ∷ 0 ∷ 9 ∷ 96
            ∷ 0 ∷ 0 ∷ 0 ∷ 0 ∷ 0 ∷ 0 ∷ 9 ∷ 96
            ∷ 0 ∷ 0 ∷ 0 ∷ 0 ∷ 0 ∷ 0 ∷ 0 ∷ 0
            ∷ 0 ∷ 0 ∷ 0 ∷ 0 ∷ 0 ∷ 0 ∷ 0 ∷ 0
            ∷ 0 ∷ 0 ∷ 0 ∷ 0 ∷ 0 ∷ 0 ∷ 0 ∷ 0
            ∷ 0 ∷ 0 ∷ 0 ∷ 0 ∷ 0 ∷ 0 ∷ 0 ∷ 10 ∷ [];
      },
    )
    ∷ (
      2400,
      record {
        kind = kinds.Capsule;
        bytes =
            0 ∷ 0 ∷ 0 ∷ 0 ∷ 0 ∷ 0 ∷ 0 ∷ 0
            ∷ 72 ∷ 49 ∷ 58 ∷ [];
      },
    )
    ∷ (
      2360,
      record {
        kind = kinds.Extent;
        bytes =
            0 ∷ 0 ∷ 0 ∷ 0 ∷ 0 ∷ 0 ∷ 8 ∷ 168
            ∷ 0 ∷ 0 ∷ 0 ∷ 0 ∷ 0 ∷ 0 ∷ 0 ∷ 0
            ∷ 0 ∷ 0 ∷ 0 ∷ 0 ∷ 0 ∷ 0 ∷ 0 ∷ 10
            ∷ 0 ∷ 0 ∷ 0 ∷ 0 ∷ 0 ∷ 0 ∷ 0 ∷ 0 ∷ [];
      },
    )
    ∷ (
      2152,
      record {
        kind = kinds.Name;
        bytes =
            0 ∷ 0 ∷ 0 ∷ 0 ∷ 0 ∷ 0 ∷ 0 ∷ 0
            ∷ 0 ∷ 0 ∷ 0 ∷ 0 ∷ 0 ∷ 0 ∷ 0 ∷ 3
            ∷ 0 ∷ 0 ∷ 0 ∷ 0 ∷ 0 ∷ 0 ∷ 8 ∷ 24
            ∷ 4 ∷ 109 ∷ 97 ∷ 105 ∷ 108 ∷ 0 ∷ 0 ∷ 0
            ∷ 0 ∷ 0 ∷ 0 ∷ 0 ∷ 0 ∷ 0 ∷ 0 ∷ 0
            ∷ 0 ∷ 0 ∷ 0 ∷ 0 ∷ 0 ∷ 0 ∷ 0 ∷ 0
            ∷ 0 ∷ 0 ∷ 0 ∷ 0 ∷ 0 ∷ 0 ∷ 0 ∷ 0 ∷ [];
      },
    )
    ∷ []

-- its control words from 89 on: the name; the version; what is occupied inbound and outbound, and the maxima; the next ticket
abbrev pub bundle_roots : List ℕ
bundle_roots =
    2152 ∷ 2152 ∷ 2 ∷ 0 ∷ 0 ∷ 0 ∷ 1099511627776 ∷ 1099511627776
    ∷ 32768 ∷ 0 ∷ 0 ∷ 10 ∷ 0 ∷ 120 ∷ 1099511627776 ∷ 1099511627776
    ∷ 32768 ∷ 0 ∷ 0 ∷ 1 ∷ 0 ∷ 0 ∷ 0 ∷ 0
    ∷ 0 ∷ 0 ∷ 0 ∷ 0 ∷ 0 ∷ 0 ∷ 0 ∷ 0
    ∷ 0 ∷ 0 ∷ 0 ∷ 0 ∷ 0 ∷ 0 ∷ 0 ∷ []
