-- The control words that belong to what the blocks of a heap keep.
use Rattle.std.specs.Prelude.{ℕ, ◌-◌, cond, nat_lt, List, [], ◌∷◌, ◌++◌, get_or, replicate}
use Rattle.sdr_base.specs.Tickets.{amount_words}
use Rattle.sdr_base.specs.declared.account.Amounts.{Amounts}
use Rattle.sdr_base.specs.declared.control.TheConstants.{FIRST_NAME}

-- the words of an account: what is occupied of file, bulk and heap space, the maxima, and the first and the last ticket
abbrev pub account_words : Amounts → Amounts → ℕ → ℕ → List ℕ
account_words occupied maxima first last = amount_words occupied ++ amount_words maxima ++ first ∷ last ∷ []

-- the control words from 89 to 127 in a heap of this version: the first and the last entry of the catalogue, the version, the
-- words of the inbound and of the outbound account, the number of the next ticket, and zeros
abbrev pub root_words : ℕ → ℕ → ℕ → List ℕ → List ℕ → ℕ → List ℕ
root_words version first last inbound outbound next = first ∷ last ∷ version ∷ (inbound ++ outbound ++ next ∷ replicate 19 0)

-- these words by the numbers of control words, and 0 for all others
unfoldable pub roots_by : List ℕ → ℕ → ℕ
roots_by words word = cond (nat_lt word FIRST_NAME) 0 (get_or words (word - FIRST_NAME) 0)
