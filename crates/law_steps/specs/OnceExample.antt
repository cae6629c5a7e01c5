-- A file that objects of both accounts name, as they come and go.
use Rattle.std.specs.Prelude.{ℕ, List, [], ◌∷◌, false}
use Rattle.std.specs.FinMap as finite
use Rattle.sdr_base.specs.declared.account.Acct.{Acct}
use Rattle.sdr_base.specs.declared.account.Acct.TheVariants as accts
use Rattle.sdr_model.specs.Accounts.{unused_account}
use Rattle.sdr_model.specs.PartSteps.{object_of}
use Rattle.sdr_model.specs.World.{World}
use Rattle.sdr_model.specs.declared.things.Thing.{Thing}
use Rattle.sdr_model.specs.declared.things.Thing.TheVariants as things
use Rattle.sdr_model.specs.declared.zco.Subject.TheVariants as subjects

-- the file's source at 8, of four bytes
abbrev pub shared_file : ℕ × Thing
shared_file = (8, things.Source (record { subject = subjects.File (97 ∷ []); length = 4; flagged = false }))

-- an object of an account at an address, of one byte of the file; its extent is in the next block
abbrev pub byte_object : Acct → ℕ → ℕ → ℕ × Thing
byte_object acct addr block =
    (addr, things.Object (object_of acct (record { block = block; source = 8; offset = 1; length = 1 } ∷ [])))

-- a world of these things, in which no ticket asks for space
abbrev pub world_of : List (ℕ × Thing) → World
world_of things = record {
  things = finite.from_sorted things;
  names = [];
  accounts = record { inbound = unused_account 32768; outbound = unused_account 32768; next = 1 };
  marks = [];
  shown = [];
  taken = 7;
}

-- an outbound object names the file
abbrev pub first_things : List (ℕ × Thing)
first_things = shared_file ∷ byte_object accts.Outbound 16 24 ∷ []

-- so does its clone
abbrev pub cloned_things : List (ℕ × Thing)
cloned_things = shared_file ∷ byte_object accts.Outbound 16 24 ∷ byte_object accts.Outbound 32 40 ∷ []

-- and an inbound object
abbrev pub both_things : List (ℕ × Thing)
both_things =
    shared_file ∷ byte_object accts.Outbound 16 24 ∷ byte_object accts.Outbound 32 40 ∷ byte_object accts.Inbound 48 56 ∷ []

-- the first object is gone
abbrev pub fewer_things : List (ℕ × Thing)
fewer_things = shared_file ∷ byte_object accts.Outbound 32 40 ∷ byte_object accts.Inbound 48 56 ∷ []

-- and its clone
abbrev pub last_things : List (ℕ × Thing)
last_things = shared_file ∷ byte_object accts.Inbound 48 56 ∷ []
