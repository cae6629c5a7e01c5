-- Statements that are numbered one behind another.
use Rattle.std.proofs.Common.{◌≡◌, ℕ, suc, ◌+◌, List, [], ◌∷◌, ◌++◌, length, ap, refl, sym, ◌∙◌, append_assoc, arith}
use Rattle.sdr_load.specs.Statements.{numbered, step_in}
use Rattle.sdr_load.specs.declared.statement.Statement.{Statement}
use Rattle.sdr_model.specs.declared.script.ScriptStep.{ScriptStep}

pub numbered-append : (line : ℕ) (xs ys : List Statement) → numbered line (xs ++ ys) ≡ numbered line xs ++ numbered (line + length xs) ys
numbered-append line [] ys =
    let same : line ≡ line + 0 = omega arith in ap (λ n. numbered n ys) same
numbered-append line (x ∷ xs) ys =
    let same : line + 1 + length xs ≡ line + suc (length xs) = omega arith in
    ap (λ l. step_in line x ∷ l) (numbered-append (line + 1) xs ys ∙ ap (λ n. numbered (line + 1) xs ++ numbered n ys) same)

-- each statement has one line
pub length-numbered : (line : ℕ) (xs : List Statement) → length (numbered line xs) ≡ length xs
length-numbered line [] = refl
length-numbered line (x ∷ xs) = ap (λ n. suc n) (length-numbered (line + 1) xs)

-- the first of the statements that are left is put behind those that are numbered
pub numbered_more : (done now : List ScriptStep) (line : ℕ) (x : Statement) (rest left : List Statement) → left ≡ x ∷ rest → now ≡ done ++ step_in line x ∷ []
    → now ++ numbered (line + 1) rest ≡ done ++ numbered line left
numbered_more done now line x rest left is put =
    ap (λ l. l ++ numbered (line + 1) rest) put ∙ append_assoc done (step_in line x ∷ []) (numbered (line + 1) rest)
    ∙ sym (ap (λ l. done ++ numbered line l) is)

pub ruleset of_numbered = (length-numbered, numbered-append)
