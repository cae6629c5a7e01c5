-- The steps of a load follow one another.
use Rattle.std.proofs.Common.{◌≡◌, ◌==◌, ◌&&◌, ◌≤◌, ◌<◌, ◌^◌, ◌⊎◌, inl, inr, ℕ, zero, suc, ◌+◌, List, [], ◌∷◌, ◌++◌, Bool, true, false, cond, codes, length, nat_eq, replicate, ap, refl, sym, subst, ◌∙◌, arith, lit<, lit≤}
use Rattle.std.proofs.lemmas.Bool.{and_from, or_left, or_right}
use Rattle.std.proofs.lemmas.Bool.Decides.{nat_tests}
use Rattle.std.proofs.lemmas.List.Folds.{list_any-append}
use Rattle.std.specs.Cmp.Lexicographic.{pointwise}
use Rattle.std.specs.List.{flat_map, list_any, range_with_len}
use Rattle.hex.specs.Hex.{IsBytes}
use Rattle.sdr_load.proofs.ReadingLemmas.{Follows, Follows-append}
use Rattle.sdr_load.proofs.StatementLemmas.{length-numbered, numbered-append}
use Rattle.sdr_load.specs.Rounds.{adding, byte_in, closing, round_daemon, dropping, drops_oldest, is_round_cancelled, later_round, length_in, opening, round_of}
use Rattle.sdr_load.specs.Schedule.{script_for}
use Rattle.sdr_load.specs.Statements.{binds, numbered, says, step_in}
use Rattle.sdr_load.specs.VerbPlaces.{place_of}
use Rattle.sdr_load.specs.VerbWords.{verb_word}
use Rattle.sdr_load.specs.declared.statement.Statement.{Statement}
use Rattle.sdr_load.specs.declared.verb.Verb.{Verb}
use Rattle.sdr_load.specs.declared.verb.Verb.TheVariants as verbs
use Rattle.sdr_model.specs.declared.script.Arg.TheVariants as args
use Rattle.sdr_model.specs.declared.script.ScriptStep.{ScriptStep}
use Rattle.sdr_words.specs.Canonical.{AreArgs, IsStep}
use Rattle.sdr_words.specs.Statements.{is_bound_by}
use Rattle.sdr_words.specs.Verbs.{shapes, shapes_at, verb_names}
use Rattle.sdr_words.specs.Words.{is_name}

-- each verb has its place in the table
in_table : (verb : Verb) → place_of (verb_word verb) < length verb_names
unfolding place_of verb_names
in_table verbs.Begin = lit< tt
in_table verbs.End = lit< tt
in_table verbs.Cancel = lit< tt
in_table verbs.Malloc = lit< tt
in_table verbs.Free = lit< tt
in_table verbs.Write = lit< tt
in_table verbs.List = lit< tt
in_table verbs.InsertLast = lit< tt
in_table verbs.Delete = lit< tt
in_table verbs.First = lit< tt
in_table verbs.Datum = lit< tt
in_table verbs.Catlg = lit< tt
in_table verbs.Find = lit< tt

same_number : (n : ℕ) → (n == n) ≡ true
same_number n = grind (arith, nat_tests)

load_bytes : IsBytes (codes "load")
load_bytes zero = lit< tt
load_bytes (suc zero) = lit< tt
load_bytes (suc (suc zero)) = lit< tt
load_bytes (suc (suc (suc zero))) = lit< tt
load_bytes (suc (suc (suc (suc i)))) = lit< tt

replicated_bytes : (n byte : ℕ) → byte < 256 → IsBytes (replicate n byte)
replicated_bytes zero byte low i = lit< tt
replicated_bytes (suc n) byte low zero = low
replicated_bytes (suc n) byte low (suc i) = replicated_bytes n byte low i

module _ (daemon : ℕ) (low : 1 ≤ daemon) (high : daemon ≤ 16) where
  bound_now : (earlier : List ScriptStep) (step : ScriptStep) (name : List ℕ) → step.daemon ≡ daemon → pointwise nat_eq name step.name ≡ true
      → is_bound_by (earlier ++ step ∷ []) daemon name ≡ true
  bound_now earlier step name by named =
      let test : ScriptStep → Bool = λ step. step.daemon == daemon && pointwise nat_eq name step.name in
      let here : (step.daemon == daemon) ≡ true = ap (λ n. n == daemon) by ∙ same_number daemon in
      list_any-append test earlier (step ∷ [])
      ∙ or_right (list_any test earlier) _ (or_left (test step) false (and_from (step.daemon == daemon) _ here named))

  bound_still : (earlier : List ScriptStep) (step : ScriptStep) (name : List ℕ) → is_bound_by earlier daemon name ≡ true
      → is_bound_by (earlier ++ step ∷ []) daemon name ≡ true
  bound_still earlier step name bound =
      let test : ScriptStep → Bool = λ step. step.daemon == daemon && pointwise nat_eq name step.name in
      list_any-append test earlier (step ∷ []) ∙ or_left (list_any test earlier) _ bound

  -- a statement of the daemon is a step behind earlier ones
  step_is : (earlier : List ScriptStep) (line : ℕ) (s : Statement) → s.daemon ≡ daemon → (s.name ≡ []) ⊎ (is_name s.name ≡ true)
      → AreArgs (is_bound_by earlier s.daemon) (shapes_at (place_of (verb_word s.verb))) s.args → IsStep earlier (step_in line s)
  step_is earlier line s by name are = record {
    first_daemon = omega (arith, by, low);
    last_daemon = omega (arith, by, high);
    name = name;
    verb = in_table s.verb;
    args = are;
  }

  opening_follows : (earlier : List ScriptStep) (line : ℕ) → Follows earlier line (numbered line (opening daemon))
  unfolding place_of verb_names shapes
  opening_follows earlier line =
      let begins = says daemon verbs.Begin [] in
      let lists = binds daemon (codes "l") verbs.List (args.Number 0 ∷ []) in
      let names = says daemon verbs.Catlg (args.Text (codes "load") ∷ args.Number 1 ∷ args.Named (codes "l") ∷ []) in
      let ends = says daemon verbs.End [] in
      let one = earlier ++ step_in line begins ∷ [] in
      let two = one ++ step_in (line + 1) lists ∷ [] in
      let three = two ++ step_in (line + 1 + 1) names ∷ [] in
      let l = bound_now one (step_in (line + 1) lists) (codes "l") refl refl in (
        refl,
        step_is earlier line begins refl (inl refl) tt,
        (
          refl,
          step_is one (line + 1) lists refl (inr refl) (lit< tt, tt),
          (
            refl,
            step_is two (line + 1 + 1) names refl (inl refl) (load_bytes, (lit≤ tt, ((refl, l), tt))),
            (refl, step_is three (line + 1 + 1 + 1) ends refl (inl refl) tt, tt),
          ),
        ),
      )

  adding_follows : (earlier : List ScriptStep) (line bytes byte : ℕ) → bytes < 2 ^ 64 → byte < 256
      → Follows earlier line (numbered line (adding daemon bytes byte))
  unfolding place_of verb_names shapes
  adding_follows earlier line bytes byte fits small =
      let begins = says daemon verbs.Begin [] in
      let finds = binds daemon (codes "l") verbs.Find (args.Text (codes "load") ∷ []) in
      let makes = binds daemon (codes "p") verbs.Malloc (args.Number bytes ∷ []) in
      let writes = says daemon verbs.Write (args.Named (codes "p") ∷ args.Number 0 ∷ args.Text (replicate bytes byte) ∷ []) in
      let inserts = says daemon verbs.InsertLast (args.Named (codes "l") ∷ args.Named (codes "p") ∷ []) in
      let one = earlier ++ step_in line begins ∷ [] in
      let two = one ++ step_in (line + 1) finds ∷ [] in
      let three = two ++ step_in (line + 1 + 1) makes ∷ [] in
      let four = three ++ step_in (line + 1 + 1 + 1) writes ∷ [] in
      let l = bound_now one (step_in (line + 1) finds) (codes "l") refl refl in
      let p = bound_now two (step_in (line + 1 + 1) makes) (codes "p") refl refl in
      let still_l = bound_still three (step_in (line + 1 + 1 + 1) writes) (codes "l") (bound_still two (step_in (line + 1 + 1) makes) (codes "l") l) in
      let still_p = bound_still three (step_in (line + 1 + 1 + 1) writes) (codes "p") p in (
        refl,
        step_is earlier line begins refl (inl refl) tt,
        (
          refl,
          step_is one (line + 1) finds refl (inr refl) (load_bytes, tt),
          (
            refl,
            step_is two (line + 1 + 1) makes refl (inr refl) (fits, tt),
            (
              refl,
              step_is three (line + 1 + 1 + 1) writes refl (inl refl) ((refl, p), (lit< tt, (replicated_bytes bytes byte small, tt))),
              (refl, step_is four (line + 1 + 1 + 1 + 1) inserts refl (inl refl) ((refl, still_l), ((refl, still_p), tt)), tt),
            ),
          ),
        ),
      )

  -- these statements bind the list
  adding_binds : (earlier : List ScriptStep) (line bytes byte : ℕ) → is_bound_by (earlier ++ numbered line (adding daemon bytes byte)) daemon (codes "l") ≡ true
  adding_binds earlier line bytes byte =
      let test : ScriptStep → Bool = λ step. step.daemon == daemon && pointwise nat_eq (codes "l") step.name in
      list_any-append test earlier (numbered line (adding daemon bytes byte))
      ∙ or_right (list_any test earlier) _ (or_right (daemon == daemon && false) _ (or_left (daemon == daemon && true) _ (and_from (daemon == daemon) true (same_number daemon) refl)))

  dropping_follows : (drops : Bool) (earlier : List ScriptStep) (line : ℕ) → is_bound_by earlier daemon (codes "l") ≡ true
      → Follows earlier line (numbered line (cond drops (dropping daemon) []))
  unfolding place_of verb_names shapes
  dropping_follows false earlier line l = tt
  dropping_follows true earlier line l =
      let finds = binds daemon (codes "e") verbs.First (args.Named (codes "l") ∷ []) in
      let reads = binds daemon (codes "x") verbs.Datum (args.Named (codes "e") ∷ []) in
      let deletes = says daemon verbs.Delete (args.Named (codes "e") ∷ []) in
      let frees = says daemon verbs.Free (args.Named (codes "x") ∷ []) in
      let one = earlier ++ step_in line finds ∷ [] in
      let two = one ++ step_in (line + 1) reads ∷ [] in
      let three = two ++ step_in (line + 1 + 1) deletes ∷ [] in
      let e = bound_now earlier (step_in line finds) (codes "e") refl refl in
      let still_e = bound_still one (step_in (line + 1) reads) (codes "e") e in
      let x = bound_now one (step_in (line + 1) reads) (codes "x") refl refl in
      let still_x = bound_still two (step_in (line + 1 + 1) deletes) (codes "x") x in (
        refl,
        step_is earlier line finds refl (inr refl) ((refl, l), tt),
        (
          refl,
          step_is one (line + 1) reads refl (inr refl) ((refl, e), tt),
          (
            refl,
            step_is two (line + 1 + 1) deletes refl (inl refl) ((refl, still_e), tt),
            (refl, step_is three (line + 1 + 1 + 1) frees refl (inl refl) ((refl, still_x), tt), tt),
          ),
        ),
      )

  closing_follows : (cancelled : Bool) (earlier : List ScriptStep) (line : ℕ) → Follows earlier line (numbered line (closing daemon cancelled ∷ []))
  unfolding place_of verb_names shapes
  closing_follows true earlier line = (refl, step_is earlier line (closing daemon true) refl (inl refl) tt, tt)
  closing_follows false earlier line = (refl, step_is earlier line (closing daemon false) refl (inl refl) tt, tt)

-- the steps of statements that follow others
said-append : (earlier : List ScriptStep) (line : ℕ) (xs ys : List Statement) → Follows earlier line (numbered line xs)
    → Follows (earlier ++ numbered line xs) (line + length xs) (numbered (line + length xs) ys) → Follows earlier line (numbered line (xs ++ ys))
said-append earlier line xs ys these those =
    let at : ℕ → Type 0 = λ n. Follows (earlier ++ numbered line xs) (line + n) (numbered (line + length xs) ys) in
    subst (λ (l : List ScriptStep). Follows earlier line l) (sym (numbered-append line xs ys))
    (Follows-append earlier (numbered line xs) (numbered (line + length xs) ys) line these (subst at (sym (length-numbered line xs)) those))

later_follows : (daemon : ℕ) → 1 ≤ daemon → daemon ≤ 16 → (earlier : List ScriptStep) (line bytes byte : ℕ) (drops cancelled : Bool) → bytes < 2 ^ 64 → byte < 256
    → Follows earlier line (numbered line (adding daemon bytes byte ++ cond drops (dropping daemon) [] ++ closing daemon cancelled ∷ []))
later_follows daemon low high earlier line bytes byte drops cancelled fits small =
    let adds = adding daemon bytes byte in
    let front = adds ++ cond drops (dropping daemon) [] in
    said-append earlier line front (closing daemon cancelled ∷ [])
    (said-append earlier line adds (cond drops (dropping daemon) []) (adding_follows daemon low high earlier line bytes byte fits small)
    (dropping_follows daemon low high drops (earlier ++ numbered line adds) (line + length adds) (adding_binds daemon low high earlier line bytes byte)))
    (closing_follows daemon low high cancelled (earlier ++ numbered line front) (line + length front))

chosen_follows : (first : Bool) (earlier : List ScriptStep) (line round : ℕ) → Follows earlier line (numbered line (cond first (opening 1) (later_round round)))
chosen_follows true earlier line round = opening_follows 1 (lit≤ tt) (lit≤ tt) earlier line
chosen_follows false earlier line round =
    later_follows (round_daemon round) (omega arith) (omega arith) earlier line (length_in round) (byte_in round) (drops_oldest round) (is_round_cancelled round)
    (omega arith) (omega arith)

round_follows : (earlier : List ScriptStep) (line round : ℕ) → Follows earlier line (numbered line (round_of round))
unfolding round_of
round_follows earlier line round = chosen_follows (round == 0) earlier line round

rounds_follow : (rounds : List ℕ) (earlier : List ScriptStep) (line : ℕ) → Follows earlier line (numbered line (flat_map round_of rounds))
rounds_follow [] earlier line = tt
rounds_follow (round ∷ rounds) earlier line =
    said-append earlier line (round_of round) (flat_map round_of rounds) (round_follows earlier line round)
    (rounds_follow rounds (earlier ++ numbered line (round_of round)) (line + length (round_of round)))

-- each step of a load is one that a script may have behind those before it
pub script_follows : (rounds : ℕ) → Follows [] 1 (script_for rounds)
script_follows rounds = rounds_follow (range_with_len 0 (rounds + 1)) [] 1
