-- Sources, and zero-copy objects: what an extent names, how often a source is named, and how long an object is.
use Rattle.sdr_base.specs.declared.account.Acct.TheVariants as accts
use Rattle.sdr_base.specs.declared.account.Acct.{Acct}
use Rattle.sdr_base.specs.declared.kind.Space.TheVariants as spaces
use Rattle.sdr_base.specs.declared.kind.Space.{Space}
use Rattle.sdr_model.specs.Accounts.{is_same_account}
use Rattle.sdr_model.specs.World.{World, thing_at}
use Rattle.sdr_model.specs.declared.things.Thing.TheVariants as things
use Rattle.sdr_model.specs.declared.things.Thing.{Thing}
use Rattle.sdr_model.specs.declared.zco.Capsule.{Capsule}
use Rattle.sdr_model.specs.declared.zco.Extent.{Extent}
use Rattle.sdr_model.specs.declared.zco.Part.{Part}
use Rattle.sdr_model.specs.declared.zco.Subject.TheVariants as subjects
use Rattle.sdr_model.specs.declared.zco.Subject.{Subject}
use Rattle.sdr_model.specs.declared.zco.ZcoObject.{ZcoObject}
use Rattle.sdr_model.specs.declared.zco.ZcoSource.{ZcoSource}
use Rattle.std.specs.FinMap as finite
use Rattle.std.specs.Option.{option_map}
use Rattle.std.specs.Prelude.{ℕ, ◌+◌, ◌==◌, List, [], Bool, false, length, sum_by, find, Option, None, Some, if◌then◌else◌}

-- the source, where the thing is one
abbrev pub as_source : Option Thing → Option ZcoSource
as_source (Some (things.Source source)) = Some source
as_source thing = None

-- the object, where the thing is one
abbrev pub as_object : Option Thing → Option ZcoObject
as_object (Some (things.Object object)) = Some object
as_object thing = None

-- the source at an address
abbrev pub source_at : World → ℕ → Option ZcoSource
source_at w addr = as_source (thing_at w addr)

-- the object at an address
abbrev pub object_at : World → ℕ → Option ZcoObject
object_at w addr = as_object (thing_at w addr)

-- the raw object that is taken over by a source of this subject
abbrev pub taken_over : Subject → Option ℕ
taken_over (subjects.Heap raw) = Some raw
taken_over subject = None

-- the raw object that a source has taken over
abbrev pub owned_raw : ZcoSource → Option ℕ
owned_raw source = taken_over source.subject

-- whether the subject is this raw object
abbrev pub is_of_raw : ℕ → Subject → Bool
is_of_raw raw (subjects.Heap addr) = addr == raw
is_of_raw raw (subjects.Obj addr) = addr == raw
is_of_raw raw subject = false

-- whether the thing is a source of this raw object
abbrev pub names_raw : ℕ → Thing → Bool
names_raw raw (things.Source source) = is_of_raw raw source.subject
names_raw raw thing = false

-- the address of the source that names a raw object
abbrev pub source_naming : World → ℕ → Option ℕ
source_naming w raw = option_map (λ e. e.0) (find (λ e. names_raw raw e.1) (finite.entries w.things))

-- how many of these extents name a source
abbrev pub naming : ℕ → List Extent → ℕ
naming source = sum_by (λ e. if e.source == source then 1 else 0)

-- how many extents of a thing name a source, where the thing is an object of this account
abbrev pub uses_in : ℕ → Acct → Thing → ℕ
uses_in source acct (things.Object z) = if is_same_account acct z.account then naming source z.extents else 0
uses_in source acct thing = 0

-- how many extents of an account's objects name a source
abbrev pub count_of : World → ℕ → Acct → ℕ
count_of w source acct = sum_by (λ e. uses_in source acct e.1) (finite.entries w.things)

-- how many extents name a source
abbrev pub uses_of : World → ℕ → ℕ
uses_of w source = count_of w source accts.Inbound + count_of w source accts.Outbound

-- the bytes of these extents together
abbrev pub extents_length : List Extent → ℕ
extents_length = sum_by (λ e. e.length)

-- the bytes of these headers or trailers together
abbrev pub capsules_length : List Capsule → ℕ
capsules_length = sum_by (λ c. length c.text)

-- the part that is the whole of these extents
abbrev pub whole_of : List Extent → Part
whole_of extents = record { offset = 0; length = extents_length extents }

-- an object with nothing in it
abbrev pub empty_object : Acct → ZcoObject
empty_object acct = record {
  account = acct;
  headers = [];
  extents = [];
  trailers = [];
  part = record { offset = 0; length = 0 };
}

-- the space that the bytes of a subject are in
abbrev pub space_of : Subject → Space
space_of (subjects.File path) = spaces.File
space_of (subjects.Bulk item) = spaces.Bulk
space_of (subjects.Heap raw) = spaces.Heap
space_of (subjects.Obj raw) = spaces.Heap

-- the raw object that a subject is, where it is one
abbrev pub raw_of : Subject → Option ℕ
raw_of (subjects.Heap raw) = Some raw
raw_of (subjects.Obj raw) = Some raw
raw_of subject = None
