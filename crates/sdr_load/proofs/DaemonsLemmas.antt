-- The daemons that a load names.
use Rattle.std.proofs.Common.{◌≡◌, ◌==◌, ◌≤◌, ◌<◌, ℕ, zero, suc, ◌+◌, ◌%◌, min, List, [], ◌∷◌, ◌++◌, Bool, true, false, ◌&&◌, ◌||◌, cond, filter, nat_le, ap, refl, sym, ◌∙◌, inl, inr, arith}
use Rattle.std.proofs.lemmas.Bool.{cases_lt}
use Rattle.std.proofs.lemmas.Bool.Decides.{nat_tests}
use Rattle.std.proofs.lemmas.List.Folds.{list_any-append}
use Rattle.std.specs.List.{flat_map, list_any, range_with_len}
use Rattle.sdr_load.proofs.RoundLemmas.{range_push}
use Rattle.sdr_load.specs.Rounds.{adding, byte_in, closing, round_daemon, dropping, drops_oldest, is_round_cancelled, later_round, length_in, opening, round_of}
use Rattle.sdr_load.specs.Schedule.{said_from, script_for}
use Rattle.sdr_load.specs.Statements.{numbered}
use Rattle.sdr_load.specs.declared.statement.Statement.{Statement}
use Rattle.sdr_words.specs.Daemons.{all_daemons, daemons_of}

same_four : (b : Bool) → (b || (b || (b || (b || false)))) ≡ b
same_four true = refl
same_four false = refl

same_six : (b : Bool) → (b || (b || (b || (b || (b || (b || false)))))) ≡ b
same_six true = refl
same_six false = refl

same_ten : (b : Bool) → (b || (b || (b || (b || (b || (b || (b || (b || (b || (b || false)))))))))) ≡ b
same_ten true = refl
same_ten false = refl

or_false : (b : Bool) → (b || false) ≡ b
or_false true = refl
or_false false = refl

zero_where : (n : ℕ) → (n == 0) ≡ true → n ≡ 0
zero_where n is = grind (arith, nat_tests)

module _ (daemon : ℕ) where
  -- the lines don't matter to who speaks
  any-numbered : (line : ℕ) (said : List Statement) → list_any (λ step. step.daemon == daemon) (numbered line said) ≡ list_any (λ s. s.daemon == daemon) said
  any-numbered line [] = refl
  any-numbered line (s ∷ said) = ap (λ b. (s.daemon == daemon) || b) (any-numbered (line + 1) said)

  any-later : (drops cancelled : Bool) (by bytes byte : ℕ)
      → list_any (λ s. s.daemon == daemon) (adding by bytes byte ++ cond drops (dropping by) [] ++ closing by cancelled ∷ []) ≡ (by == daemon)
  any-later true cancelled by bytes byte = same_ten (by == daemon)
  any-later false cancelled by bytes byte = same_six (by == daemon)

  any-chosen : (round : ℕ) (first : Bool) → (round == 0) ≡ first
      → list_any (λ s. s.daemon == daemon) (cond first (opening 1) (later_round round)) ≡ (round_daemon round == daemon)
  any-chosen round true is = same_four (1 == daemon) ∙ ap (λ r. round_daemon r == daemon) (sym (zero_where round is))
  any-chosen round false is = any-later (drops_oldest round) (is_round_cancelled round) (round_daemon round) (length_in round) (byte_in round)

  -- a round is its daemon's alone
  any-round_of : (round : ℕ) → list_any (λ s. s.daemon == daemon) (round_of round) ≡ (round_daemon round == daemon)
  unfolding round_of
  any-round_of round = any-chosen round (round == 0) refl

  -- who speaks in some rounds
  any-said : (rounds : List ℕ) → list_any (λ s. s.daemon == daemon) (flat_map round_of rounds) ≡ list_any (λ round. round_daemon round == daemon) rounds
  any-said [] = refl
  any-said (round ∷ rounds) =
      list_any-append (λ s. s.daemon == daemon) (round_of round) (flat_map round_of rounds)
      ∙ ap (λ b. b || list_any (λ s. s.daemon == daemon) (flat_map round_of rounds)) (any-round_of round)
      ∙ ap (λ b. (round_daemon round == daemon) || b) (any-said rounds)

-- whether a daemon is among the first so many
abbrev is_among : ℕ → ℕ → Bool
is_among most daemon = nat_le 1 daemon && nat_le daemon most

among_next : (daemon most : ℕ) → (is_among most daemon || (1 + most == daemon)) ≡ is_among (1 + most) daemon
among_next daemon most = grind (arith, nat_tests)

among_before : (daemon most here : ℕ) → here < most → (is_among most daemon || (1 + here == daemon)) ≡ is_among most daemon
among_before daemon most here low = grind (arith, nat_tests)

one_round_more : (daemon rounds : ℕ) → (is_among (min 4 rounds) daemon || (round_daemon rounds == daemon)) ≡ is_among (min 4 (suc rounds)) daemon
one_round_more daemon rounds =
    elim (cases_lt rounds 4) [
      | inl few ↦
          let here : rounds % 4 ≡ rounds = omega (arith, few) in
          let old : min 4 rounds ≡ rounds = omega (arith, few) in
          let new : min 4 (suc rounds) ≡ 1 + rounds = omega (arith, few) in
          ap (λ n. is_among (min 4 rounds) daemon || (1 + n == daemon)) here
          ∙ ap (λ n. is_among n daemon || (1 + rounds == daemon)) old
          ∙ among_next daemon rounds ∙ ap (λ n. is_among n daemon) (sym new)
      | inr many ↦
          let low : rounds % 4 < 4 = omega arith in
          let old : min 4 rounds ≡ 4 = omega (arith, many) in
          let new : min 4 (suc rounds) ≡ 4 = omega (arith, many) in
          ap (λ n. is_among n daemon || (round_daemon rounds == daemon)) old
          ∙ among_before daemon 4 (rounds % 4) low ∙ ap (λ n. is_among n daemon) (sym new)
    ]

among_none : (daemon : ℕ) → false ≡ is_among 0 daemon
among_none daemon = grind (arith, nat_tests)

-- the daemons of the rounds from 0 on
any-rounds : (daemon rounds : ℕ) → list_any (λ round. round_daemon round == daemon) (range_with_len 0 rounds) ≡ is_among (min 4 rounds) daemon
any-rounds daemon zero = among_none daemon
any-rounds daemon (suc rounds) =
    let test : ℕ → Bool = λ round. round_daemon round == daemon in
    let here : 0 + rounds ≡ rounds = omega arith in
    ap (list_any test) (range_push 0 rounds)
    ∙ list_any-append test (range_with_len 0 rounds) ((0 + rounds) ∷ [])
    ∙ ap (λ n. list_any test (range_with_len 0 rounds) || (test n || false)) here
    ∙ ap (λ b. list_any test (range_with_len 0 rounds) || b) (or_false (test rounds))
    ∙ ap (λ b. b || test rounds) (any-rounds daemon rounds)
    ∙ one_round_more daemon rounds

-- the first so many daemons
first_daemons : (most : ℕ) → 1 ≤ most → most ≤ 4 → filter (is_among most) all_daemons ≡ range_with_len 1 most
first_daemons zero some few = absurd (omega arith)
first_daemons (suc zero) some few = refl
first_daemons (suc (suc zero)) some few = refl
first_daemons (suc (suc (suc zero))) some few = refl
first_daemons (suc (suc (suc (suc zero)))) some few = refl
first_daemons (suc (suc (suc (suc (suc more))))) some few = absurd (omega arith)

any-script_for : (daemon rounds : ℕ) → list_any (λ step. step.daemon == daemon) (script_for rounds) ≡ is_among (min 4 (rounds + 1)) daemon
any-script_for daemon rounds =
    any-numbered daemon 1 (said_from 0 (rounds + 1))
    ∙ any-said daemon (range_with_len 0 (rounds + 1))
    ∙ any-rounds daemon (rounds + 1)

pub daemons_of_script_for : (rounds : ℕ) → daemons_of (script_for rounds) ≡ range_with_len 1 (min 4 (rounds + 1))
daemons_of_script_for rounds =
    ap (λ (p : ℕ → Bool). filter p all_daemons) (λ i daemon. any-script_for daemon rounds i)
    ∙ first_daemons (min 4 (rounds + 1)) (omega arith) (omega arith)
