-- Worlds that differ in accounts alone, but for the blocks of tickets.
use Rattle.std.proofs.Common.{◌≡◌, ℕ, refl, ap, ◌∙◌}
use Rattle.std.specs.FinMap.{insert}
use Rattle.sdr_model.specs.Steps.{with_thing}
use Rattle.sdr_model.specs.Accounts.{ticket_blocks}
use Rattle.sdr_model.specs.World.{World}
use Rattle.sdr_model.specs.declared.things.Thing.{Thing}

-- The second world has the things and the names of the first, and the blocks of its tickets, with as many blocks taken.
pub record Alike (w v : World) : Type 0 where
  pub things : v.things ≡ w.things
  pub names : v.names ≡ w.names
  pub tickets : ticket_blocks v.accounts ≡ ticket_blocks w.accounts
  pub marks : v.marks ≡ w.marks
  pub taken : v.taken ≡ w.taken

-- a world is alike itself
pub itself : {w : World} → Alike w w
itself = record { things = refl; names = refl; tickets = refl; marks = refl; taken = refl }

-- and alike what it is alike
pub alike-then : {w v u : World} → Alike w v → Alike v u → Alike w u
alike-then a b = record {
  things = b.things ∙ a.things;
  names = b.names ∙ a.names;
  tickets = b.tickets ∙ a.tickets;
  marks = b.marks ∙ a.marks;
  taken = b.taken ∙ a.taken;
}

-- with the same thing put at an address of both
pub alike-with_thing : {w v : World} (addr : ℕ) (thing : Thing) → Alike w v
    → Alike (with_thing w addr thing) (with_thing v addr thing)
alike-with_thing addr thing a = record {
  things = ap (λ m. insert m addr thing) a.things;
  names = a.names;
  tickets = a.tickets;
  marks = a.marks;
  taken = a.taken;
}
