-- What a step of the machine may do, in the words of which each call's step is made.
use Rattle.std.specs.Prelude.{◌≡◌, ℕ, suc, Bool, List, [], ◌∷◌, ◌++◌, map, slice_index, Option, MatchBool, MatchOption}
use Rattle.std.specs.FinMap as finite
use Rattle.sdr_base.specs.declared.moves.Move.{Move}
use Rattle.sdr_base.specs.declared.moves.Move.TheVariants.{Took, Gave}
use Rattle.sdr_base.specs.declared.refusal.Refusal.{Refusal}
use Rattle.sdr_model.specs.World.{World, misnamed}
use Rattle.sdr_model.specs.declared.answer.Reply.{Reply}
use Rattle.sdr_model.specs.declared.answer.Reply.TheVariants as replies
use Rattle.sdr_model.specs.declared.things.Thing.{Thing}

-- what the machine did in a call: its moves, the world after it, and the reply
pub record Outcome : Type 0 where
  pub moves : List Move
  pub after : World
  pub reply : Reply

-- the call is refused, and leaves the world
abbrev pub Refuses : World → Outcome → Refusal → Type 0
Refuses w o refusal = (o.moves ≡ []) × (o.after ≡ w) × (o.reply ≡ replies.Refused refusal)

-- The call is refused where the test holds, and else goes on.
abbrev pub RefusedIf : World → Outcome → Bool → Refusal → Type 0 → Type 0
RefusedIf w o test refusal goes = MatchBool test (Refuses w o refusal) goes

-- The call is refused where the test doesn't hold, and else goes on.
abbrev pub RefusedUnless : World → Outcome → Bool → Refusal → Type 0 → Type 0
RefusedUnless w o test refusal goes = MatchBool test goes (Refuses w o refusal)

-- The call is refused for what was found, if anything was, and else goes on.
abbrev pub RefusedFor : {X : Type 0} → World → Outcome → Option X → (X → Refusal) → Type 0 → Type 0
RefusedFor w o found refusal goes = MatchOption found goes (λ x. Refuses w o (refusal x))

-- The call is refused where nothing was found, and else goes on with what was.
abbrev pub RefusedWithout : {X : Type 0} → World → Outcome → Option X → Refusal → (X → Type 0) → Type 0
RefusedWithout w o found refusal goes = MatchOption found (Refuses w o refusal) goes

-- the call only reads: the world shows these bytes, and else stays
abbrev pub ReadsBytes : World → Outcome → List ℕ → Reply → Type 0
ReadsBytes w o bytes reply = (o.moves ≡ []) × (o.after ≡ record w { shown = bytes }) × (o.reply ≡ reply)

-- the call has these moves, and leaves this world with no bytes shown
abbrev pub Does : Outcome → List Move → World → Reply → Type 0
Does o moves next reply = (o.moves ≡ moves) × (o.after ≡ record next { shown = [] }) × (o.reply ≡ reply)

-- the one move takes a block of this need, and its address has P
abbrev pub TakesOne : List Move → ℕ → (ℕ → Type 0) → Type 0
TakesOne (Took n addr ∷ []) need P = (n ≡ need) × P addr
TakesOne moves need P = ⊥

-- the one block that is taken is marked, and the call leaves this world with no bytes shown
abbrev pub Takes : World → Outcome → ℕ → (ℕ → World) → (ℕ → Reply) → Type 0
Takes w o need next reply =
    TakesOne o.moves need (λ addr. (o.after ≡ record (next addr) { marks = w.marks ++ addr ∷ []; shown = [] }) × (o.reply ≡ reply addr))

-- the addresses of the blocks that the moves take, in order
abbrev pub taken_addresses : List Move → List ℕ
taken_addresses [] = []
taken_addresses (Took need addr ∷ moves) = addr ∷ taken_addresses moves
taken_addresses (move ∷ moves) = taken_addresses moves

-- the address of the k-th block that the moves take, counted from 0
abbrev pub taken_at : List Move → ℕ → ℕ
taken_at moves = slice_index (taken_addresses moves)

-- The call has these moves, and leaves this world, each by the addresses of the blocks that are taken. They are marked,
-- and no bytes are shown.
abbrev pub DoesWith : World → Outcome → ((ℕ → ℕ) → List Move) → ((ℕ → ℕ) → World) → ((ℕ → ℕ) → Reply) → Type 0
DoesWith w o moves next reply =
    let at = taken_at o.moves in
    (o.moves ≡ moves at)
    × (o.after ≡ record (next at) { marks = w.marks ++ taken_addresses o.moves; shown = [] })
    × (o.reply ≡ reply at)

-- blocks of these needs are taken, the first at the address `at k`, and the others at the next ones
abbrev pub takes_from : (ℕ → ℕ) → ℕ → List ℕ → List Move
takes_from at k [] = []
takes_from at k (need ∷ needs) = Took need (at k) ∷ takes_from at (suc k) needs

-- the world with this thing at an address
abbrev pub with_thing : World → ℕ → Thing → World
with_thing w addr thing = record w { things = finite.insert w.things addr thing }

-- the world without the thing at an address
abbrev pub without_thing : World → ℕ → World
without_thing w addr = record w { things = finite.remove w.things addr }

-- a new thing is made, and the reply is its address
abbrev pub CreatesThing : World → Outcome → ℕ → Thing → Type 0
CreatesThing w o need thing = Takes w o need (λ addr. with_thing w addr thing) (λ addr. replies.At addr)

-- blocks are given back in this order
abbrev pub gave : List ℕ → List Move
gave = map (λ addr. Gave addr)

-- The call is refused where the address isn't that of what it takes, and else goes on with what it names.
abbrev pub On : {X : Type 0} → World → Outcome → ℕ → Option X → (X → Type 0) → Type 0
On w o addr named goes = RefusedWithout w o named (misnamed w addr) goes
