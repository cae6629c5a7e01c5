-- What is at a place, and what is put there when its transaction is rolled back.
use Rattle.std.specs.Option.{option_and_then}
use Rattle.std.specs.Prelude.{◌≡◌, Option, None, true, ⊤}
use Rattle.mem_store.specs.Store.{begun_at, now_at}
use Rattle.mem_store.specs.Tallies.{is_plain}
use Rattle.mem_store.specs.declared.place.Past.{Past}
use Rattle.mem_store.specs.declared.place.Past.TheVariants as pasts
use Rattle.mem_store.specs.declared.place.Place.{Place}

-- what is there now, and what was there at the begin, are neither sources nor objects
pub record ArePlain (place : Option Place) : Type 0 where
  pub now : is_plain (option_and_then now_at place) ≡ true
  pub begun : is_plain (option_and_then begun_at place) ≡ true

-- what is there now is neither a source nor an object, and nothing was there at the begin
pub record IsNew (place : Option Place) : Type 0 where
  pub now : is_plain (option_and_then now_at place) ≡ true
  pub begun : option_and_then begun_at place ≡ None

-- what a place's past tells of it
abbrev pub IsPast : Past → Option Place → Type 0
IsPast pasts.New place = IsNew place
IsPast pasts.Plain place = ArePlain place
IsPast pasts.Other place = ⊤
