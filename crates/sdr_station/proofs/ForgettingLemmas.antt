-- What a heap on an image stands for whose moves are forgotten, and what a call leaves that isn't made.
use Rattle.std.proofs.Common.{◌≡◌, ℕ, Bool, List, [], refl, sym, ap, subst}
use Rattle.sdr_base.specs.declared.media.Media.{Ghosts as MediaGhosts}
use Rattle.sdr_heap.specs.Noted.{Held}
use Rattle.sdr_image.specs.Opened.{IsQuiet, Opened}
use Rattle.sdr_image.specs.QuietLaws.{quiet_same}
use Rattle.sdr_machine.proofs.GroundLemmas.{leaves_same}
use Rattle.sdr_machine.specs.Crash.{LeavesBefore}
use Rattle.sdr_machine.specs.Ground.{State}
use Rattle.sdr_machine.specs.Standing.{GroundState}
use Rattle.sdr_model.specs.declared.call.Call.{Call}
use Rattle.sdr_station.proofs.GroundLemmas.{heap_ground}
use Rattle.sdr_station.proofs.MediaLemmas.{asks_none}
use Rattle.sdr_station.specs.Giving.{AsksMedia}
use Rattle.sdr_station.specs.Grounded.{Grounded, IsGround, StandsInMemory, StandsWithin, without_moves}
use Rattle.sdr_station.specs.Stationed.{IsUnmade, Stationed}

-- the heap stands for the same within a transaction
within_unmoved : {D : Type 0} (h : Held (Opened D)) (spare : ℕ) (shown : List ℕ) (s : State) → StandsWithin h shown s
    → StandsWithin (record h { moves = []; spare = spare }) shown s
within_unmoved h spare shown s w = record {
  pools = w.pools;
  base = w.base;
  keeps = w.keeps;
  heap = record { blocks = w.heap.blocks; roots = w.heap.roots; marks = w.heap.marks };
  whole = w.whole;
  fits = w.fits;
  next = w.next;
  gave = w.gave;
  lines = w.lines;
}

-- it stands for the same states, without moves
pub stands_unmoved : {D M : Type 0} (g : Grounded D M) (spare : ℕ) (v : GroundState) → StandsInMemory g v
    → StandsInMemory (without_moves g spare) (record v { moves = [] })
stands_unmoved g spare v at = record {
  sound = at.sound;
  size = at.size;
  before = at.before;
  taken = at.taken;
  gave = at.gave;
  stood = at.stood;
  now = λ going. within_unmoved g.heap spare g.shown v.now (at.now going);
  idle = at.idle;
  untouched = at.untouched;
  moves = refl;
}

-- and the ground keeps what it kept
pub ground_unmoved : {D M : Type 0} (moment : D → ℕ) (g : Grounded D M) (spare : ℕ) → IsGround moment g → IsGround moment (without_moves g spare)
ground_unmoved moment g spare is = record {
  seen = is.seen;
  sound = is.sound;
  going = is.going;
  stands = λ sound.
      let s = is.stands sound in record { for = record s.for { moves = [] }; holds = stands_unmoved g spare s.for s.holds };
}

module _ {D M : Type 0} (old new : Stationed D M) (is : IsUnmade old new) where
  abbrev left : Stationed D M
  left = record old { ground = without_moves old.ground new.ground.heap.spare }

  -- no call of the disk is made
  pub unmade_quiet : (bytes : D → List ℕ) (tells : D → Bool) (moment : D → ℕ) (may_hold_after : D → ℕ → List ℕ → Type 0)
      → IsQuiet bytes tells moment may_hold_after old.ground.heap.cells new.ground.heap.cells
  unmade_quiet bytes tells moment may_hold_after =
      subst (λ (s : Stationed D M). IsQuiet bytes tells moment may_hold_after old.ground.heap.cells s.ground.heap.cells) (sym is)
      (quiet_same bytes tells moment may_hold_after old.ground.heap.cells)

  -- no line is touched
  pub unmade_lines : new.ground.heap.cells.touched ≡ old.ground.heap.cells.touched
  unmade_lines = ap (λ (s : Stationed D M). s.ground.heap.cells.touched) is

  -- the transaction is as deep
  pub unmade_depth : new.nesting.depth ≡ old.nesting.depth
  unmade_depth = ap (λ (s : Stationed D M). s.nesting.depth) is

  -- no media are asked
  pub unmade_asks : (m : MediaGhosts M) (call : Call) → AsksMedia m call old.ground new.ground
  unmade_asks m call =
      subst (λ (s : Stationed D M). AsksMedia m call old.ground s.ground) (sym is)
      (record { each = (asks_none m call old.ground).each })

  -- and a crash leaves the state before
  pub unmade_leaves : (bytes : D → List ℕ) (tells : D → Bool) (moment faults : D → ℕ) (may_hold_after : D → ℕ → List ℕ → Type 0)
      (media : MediaGhosts M) → LeavesBefore (heap_ground bytes tells moment faults may_hold_after media) old.ground new.ground
  unmade_leaves bytes tells moment faults may_hold_after media =
      let h = heap_ground bytes tells moment faults may_hold_after media in
      subst (λ (s : Stationed D M). LeavesBefore h old.ground s.ground) (sym is)
      (record {
        each = λ v at.
            let same = (leaves_same h old.ground).each v at in record { later = same.later; each = same.each; past = same.past };
      })
