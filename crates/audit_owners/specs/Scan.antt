-- The blocks in use of a heap region, one after another.
use Rattle.std.specs.Prelude.{◌≡◌, ◌≤◌, ◌<◌, ◌==◌, ◌*◌, ◌&&◌, ℕ, Bool, false, true, List, length, is_some, None}
use Rattle.sdr_base.specs.KeptHeap.{block_in}
use Rattle.sdr_base.specs.Stored.{leader_kind, start_bit}
use Rattle.sdr_base.specs.declared.kind.Kind.{Kind}
use Rattle.sdr_base.specs.declared.line.TheConstants.{WORD}
use Rattle.audit_owners.specs.View.{have_number, is_one_of}

-- no start bit is set of the words from one up to another
abbrev pub HasNoStart : List ℕ → ℕ → ℕ → Type 0
HasNoStart bytes from to = (word : ℕ) → from ≤ word → word < to → (start_bit word bytes == 1) ≡ false

-- no block in use has the place of a word as its address
abbrev pub HasNoBlock : List ℕ → ℕ → Type 0
HasNoBlock bytes word = block_in bytes (WORD * word) ≡ None

-- none has, of the words from one up to another
abbrev pub HasNoBlocks : List ℕ → ℕ → ℕ → Type 0
HasNoBlocks bytes from to = (word : ℕ) → from ≤ word → word < to → HasNoBlock bytes word

-- the first word of the region, from one on, whose place is the address of a block in use
pub record IsNextBlock (bytes : List ℕ) (from word : ℕ) : Type 0 where
  pub onward : from ≤ word
  pub inside : WORD * word < length bytes
  pub there : is_some (block_in bytes (WORD * word)) ≡ true
  pub before : HasNoBlocks bytes from word

-- whether the leader of a block of one of these kinds begins with a word: its start bit is set, and its first byte is the number of
-- such a kind
abbrev pub leads_one_of : List Kind → List ℕ → ℕ → Bool
leads_one_of kinds bytes word = start_bit word bytes == 1 && have_number kinds (leader_kind (WORD * word) bytes)

-- with none of the words from one up to another does such a leader begin
abbrev pub LeadsNone : List Kind → List ℕ → ℕ → ℕ → Type 0
LeadsNone kinds bytes from to = (word : ℕ) → from ≤ word → word < to → leads_one_of kinds bytes word ≡ false

-- no block in use of these kinds has the place of a word as its address
abbrev pub HasNoneOf : List Kind → List ℕ → ℕ → Type 0
HasNoneOf kinds bytes word = is_one_of kinds (block_in bytes (WORD * word)) ≡ false

-- none has, of the words from one up to another
abbrev pub HaveNoneOf : List Kind → List ℕ → ℕ → ℕ → Type 0
HaveNoneOf kinds bytes from to = (word : ℕ) → from ≤ word → word < to → HasNoneOf kinds bytes word

-- the first word of the region, from one on, whose place is the address of a block in use of one of these kinds
pub record IsNextOf (kinds : List Kind) (bytes : List ℕ) (from word : ℕ) : Type 0 where
  pub onward : from ≤ word
  pub inside : WORD * word < length bytes
  pub there : is_one_of kinds (block_in bytes (WORD * word)) ≡ true
  pub before : HaveNoneOf kinds bytes from word
