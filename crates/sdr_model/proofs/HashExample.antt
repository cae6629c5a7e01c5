-- A hash of two keys in one bucket and one in another: what the definitions say of it.
use Rattle.std.specs.Prelude.{◌≡◌, List, [], ◌∷◌, Ok, Err, codes, refl}
use Rattle.std.specs.FinMap as map
use Rattle.sdr_base.specs.declared.moves.Move.TheVariants.{Took}
use Rattle.sdr_base.specs.declared.refusal.Refusal.TheVariants as refusals
use Rattle.sdr_model.specs.Dry.{StepsDry}
use Rattle.sdr_model.specs.HashChanges.{place_in, with_entry}
use Rattle.sdr_model.specs.HashSteps.{value_at}
use Rattle.sdr_model.specs.Hashes.{Hash}
use Rattle.sdr_model.specs.World.{World, empty_world}
use Rattle.sdr_model.specs.declared.answer.Reply.TheVariants as replies
use Rattle.sdr_model.specs.declared.call.Call.TheVariants as calls
use Rattle.sdr_model.specs.declared.things.HashEntry.{HashEntry}
use Rattle.sdr_model.specs.declared.things.Thing.TheVariants as things

-- a hash of keys of two bytes in four buckets
abbrev hash_of : List HashEntry → Hash
hash_of entries = record { key_length = 2; buckets = 4; entries = entries }

-- the bytes of `ab` and those of `ba` sum up to 195, those of `ac` to 196
abbrev ab : HashEntry
ab = record { block = 16; key = codes "ab"; value = 7 }

abbrev ac : HashEntry
ac = record { block = 24; key = codes "ac"; value = 8 }

abbrev ba : HashEntry
ba = record { block = 32; key = codes "ba"; value = 9 }

-- so `ac` stands in bucket 0, and the others in bucket 3, the newest first
abbrev all_three : Hash
all_three = hash_of (ac ∷ ba ∷ ab ∷ [])

abbrev with_empty_hash : World
with_empty_hash = record empty_world { things = map.insert map.empty 8 (things.Hash (hash_of [])); marks = 8 ∷ []; taken = 1 }

made : StepsDry empty_world (calls.Hash 2 4) (Took 56 8 ∷ []) with_empty_hash (replies.At 8)
made = record { step = (refl, (refl, refl)); in_order = (refl, tt); counted = refl }

inserted : with_entry (with_entry (with_entry (hash_of []) ab) ac) ba ≡ all_three
inserted = refl

found : place_in all_three (codes "ab") ≡ Ok 2
found = refl

its_value : value_at all_three.entries 2 ≡ 7
its_value = refl

not_found : place_in all_three (codes "bb") ≡ Err refusals.NotFound
not_found = refl

too_long : place_in all_three (codes "abc") ≡ Err (refusals.BadKeyLength 3 2)
too_long = refl
