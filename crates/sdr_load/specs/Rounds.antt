-- What is said in each round of a load.
use Rattle.std.specs.Prelude.{ℕ, ◌+◌, ◌-◌, ◌*◌, ◌%◌, List, [], ◌∷◌, ◌++◌, Bool, not, ◌==◌, nat_le, if◌then◌else◌, codes, count_by, replicate}
use Rattle.std.specs.List.{range_with_len}
use Rattle.sdr_load.specs.Statements.{binds, says}
use Rattle.sdr_load.specs.declared.statement.Statement.{Statement}
use Rattle.sdr_load.specs.declared.verb.Verb.TheVariants as verbs
use Rattle.sdr_model.specs.declared.script.Arg.TheVariants as args

-- the daemon of a round
abbrev pub round_daemon : ℕ → ℕ
round_daemon round = 1 + round % 4

-- how many bytes the object of a round has
abbrev pub length_in : ℕ → ℕ
length_in round = 1 + (37 * round) % 500

-- the byte that fills the object of a round
abbrev pub byte_in : ℕ → ℕ
byte_in round = round % 256

-- whether a round is cancelled: 3 divides it
abbrev pub is_round_cancelled : ℕ → Bool
is_round_cancelled round = round % 3 == 0

-- the rounds behind round 0 and before this one
abbrev pub rounds_before : ℕ → List ℕ
rounds_before round = range_with_len 1 (round - 1)

-- whether the oldest element goes in a round: eight or more of the rounds before it aren't divisible by 3
abbrev pub drops_oldest : ℕ → Bool
drops_oldest round = nat_le 8 (count_by (λ earlier. not (is_round_cancelled earlier)) (rounds_before round))

module _ (daemon : ℕ) where
  -- a list is made, and gets the name `load`
  abbrev pub opening : List Statement
  opening =
      says daemon verbs.Begin []
      ∷ binds daemon (codes "l") verbs.List (args.Number 0 ∷ [])
      ∷ says daemon verbs.Catlg (args.Text (codes "load") ∷ args.Number 1 ∷ args.Named (codes "l") ∷ [])
      ∷ says daemon verbs.End []
      ∷ []

  -- an object of so many copies of a byte is made, and put at the end of the list
  abbrev pub adding : ℕ → ℕ → List Statement
  adding bytes byte =
      says daemon verbs.Begin []
      ∷ binds daemon (codes "l") verbs.Find (args.Text (codes "load") ∷ [])
      ∷ binds daemon (codes "p") verbs.Malloc (args.Number bytes ∷ [])
      ∷ says daemon verbs.Write (args.Named (codes "p") ∷ args.Number 0 ∷ args.Text (replicate bytes byte) ∷ [])
      ∷ says daemon verbs.InsertLast (args.Named (codes "l") ∷ args.Named (codes "p") ∷ [])
      ∷ []

  -- the first element is deleted, and its object is freed
  abbrev pub dropping : List Statement
  dropping =
      binds daemon (codes "e") verbs.First (args.Named (codes "l") ∷ [])
      ∷ binds daemon (codes "x") verbs.Datum (args.Named (codes "e") ∷ [])
      ∷ says daemon verbs.Delete (args.Named (codes "e") ∷ [])
      ∷ says daemon verbs.Free (args.Named (codes "x") ∷ [])
      ∷ []

  -- the round is cancelled, or it ends
  abbrev pub closing : Bool → Statement
  closing cancelled = says daemon (if cancelled then verbs.Cancel else verbs.End) []

-- the statements of a round behind round 0
abbrev pub later_round : ℕ → List Statement
later_round round =
    adding (round_daemon round) (length_in round) (byte_in round)
    ++ (if drops_oldest round then dropping (round_daemon round) else [])
    ++ closing (round_daemon round) (is_round_cancelled round) ∷ []

-- the statements of a round
unfoldable pub round_of : ℕ → List Statement
round_of round = if round == 0 then opening 1 else later_round round
