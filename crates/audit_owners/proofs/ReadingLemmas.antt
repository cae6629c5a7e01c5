-- The blocks of chains are those of what is read of them.
use Rattle.std.proofs.Common.{◌≡◌, ◌≤◌, ◌<◌, ◌+◌, ◌-◌, ◌*◌, ◌/◌, ◌^◌, ◌==◌, ℕ, zero, suc, Bool, List, [], ◌∷◌, ◌++◌, cond, true, false, length, get_or, take, drop, arith, ap, ◌∙◌, refl, sym, subst, inl, inr}
use Rattle.std.specs.Prelude.{All, Option, None, Some, replicate}
use Rattle.std.proofs.Math.Seq.{drop-length}
use Rattle.std.proofs.lemmas.Bool.{and_parts, cases_lt, eqb-true, lt-ltb}
use Rattle.std.proofs.lemmas.List.{drop-drop, get_or-drop, get_or-take, get_or_past, length-drop, length-take, take-append-drop}
use Rattle.std.proofs.lemmas.List.Elements.{All-get_or, All-head, All-tail}
use Rattle.std.proofs.lemmas.Nat.{be_bytes_8}
use Rattle.std.proofs.lemmas.Option.{same_Some}
use Rattle.byteorder.specs.Endian.{big_bytes, big_from}
use Rattle.sdr_base.proofs.StoredLemmas.{big_number-part}
use Rattle.sdr_base.specs.Blocks.{Block}
use Rattle.sdr_base.specs.Catalogue.{name_addr, name_block, name_bytes}
use Rattle.sdr_base.specs.Hashes.{item_addr, item_block}
use Rattle.sdr_base.specs.Kinds.{kind_number, kind_of}
use Rattle.sdr_base.specs.Lists.{addr_of, element_block}
use Rattle.sdr_base.specs.Parts.{part}
use Rattle.sdr_base.specs.Sources.{flag_word}
use Rattle.sdr_base.specs.Stored.{number_at}
use Rattle.sdr_base.specs.Tickets.{ticket_addr, ticket_block}
use Rattle.sdr_base.specs.Words.{layout}
use Rattle.sdr_base.specs.ZcoObjects.{account_number, capsule_addr, capsule_block, extent_addr, extent_block}
use Rattle.sdr_base.specs.declared.account.Acct.{Acct}
use Rattle.sdr_base.specs.declared.kind.Kind.{Kind}
use Rattle.sdr_base.specs.declared.kind.Kind.TheVariants as kinds
use Rattle.audit_owners.specs.Linking.{ReadsBack}
use Rattle.audit_owners.specs.Owned.{AreBytes}
use Rattle.audit_owners.specs.Reading.{HasForm, IsNameField, IsReadable, behind_words, capsule_read, element_read, extent_read, item_read, name_in, name_read, ticket_read}
use Rattle.audit_owners.specs.View.{View, is_kind, word_of}
use Rattle.audit_owners.specs.declared.owner.Owner.TheVariants as owners

-- eight bytes are those of the number that they make
pub number_at-back : (place : ℕ) (bytes : List ℕ) → place + 8 ≤ length bytes → AreBytes bytes → big_bytes 8 (number_at place bytes) ≡ part place 8 bytes
unfolding number_at
number_at-back place bytes inside are =
    be_bytes_8 (part place 8 bytes) (big_from place 8 bytes) long small (sym (big_number-part place 8 bytes) ∙ omega arith)
  where
    long : length (part place 8 bytes) ≡ 8
    long = length-take 8 (drop place bytes) ∙ (let d = length-drop place bytes in omega (arith, d, inside))

    byte : (n : ℕ) → get_or bytes n 0 < 256
    byte n = elim (cases_lt n (length bytes)) [
      | inl within ↦ All-get_or (λ byte. byte < 2 ^ 8) bytes n 0 within are
      | inr past ↦ let e = get_or_past bytes n 0 past in omega (arith, e)
    ]

    small : (i : ℕ) → get_or (part place 8 bytes) i 0 < 256
    small i = elim (cases_lt i 8) [
      | inl within ↦
          let e = get_or-take 8 (drop place bytes) i 0 within ∙ get_or-drop place bytes i 0 in
          let b = byte (place + i) in
          omega (arith, e, b)
      | inr past ↦ let e = get_or_past (part place 8 bytes) i 0 (omega (arith, long, past)) in omega (arith, e)
    ]

-- so many words of a block from one on
abbrev pub words_of : Option Block → ℕ → ℕ → List ℕ
words_of block from zero = []
words_of block from (suc count) = word_of block from ∷ words_of block (from + 1) count

-- the words of a block and the bytes behind them are its bytes
pub layout-words_of : (block : Block) (from count : ℕ) → AreBytes block.bytes → 8 * (from + count) ≤ length block.bytes →
    layout (words_of (Some block) from count) (drop (8 * (from + count)) block.bytes) ≡ drop (8 * from) block.bytes
unfolding layout
layout-words_of block from zero are inside = ap (λ (n : ℕ). drop n block.bytes) (let e : 8 * (from + 0) ≡ 8 * from = omega arith in e)
layout-words_of block from (suc count) are inside =
    let within : from < length block.bytes / 8 = omega (arith, inside) in
    let word : word_of (Some block) from ≡ number_at (8 * from) block.bytes =
    ap (λ (t : Bool). cond t (number_at (8 * from) block.bytes) 0) (lt-ltb from (length block.bytes / 8) within) in
    let rest : layout (words_of (Some block) (from + 1) count) (drop (8 * (from + suc count)) block.bytes) ≡ drop (8 * (from + 1)) block.bytes =
    ap (λ (n : ℕ). layout (words_of (Some block) (from + 1) count) (drop n block.bytes)) (let e : 8 * (from + suc count) ≡ 8 * (from + 1 + count) = omega arith in e)
    ∙ layout-words_of block (from + 1) count are (omega (arith, inside)) in
    let next : drop (8 * (from + 1)) block.bytes ≡ drop 8 (drop (8 * from) block.bytes) =
    ap (λ (n : ℕ). drop n block.bytes) (let e : 8 * (from + 1) ≡ 8 * from + 8 = omega arith in e) ∙ sym (drop-drop 8 (8 * from) block.bytes) in
    ap (λ (w : ℕ). big_bytes 8 w ++ layout (words_of (Some block) (from + 1) count) (drop (8 * (from + suc count)) block.bytes)) word
    ∙ (λ i. number_at-back (8 * from) block.bytes (omega (arith, inside)) are i ++ (rest ∙ next) i)
    ∙ take-append-drop 8 (drop (8 * from) block.bytes)

kind_back : (kind : Kind) → kind_of (kind_number kind) ≡ Some kind
kind_back kinds.Raw = refl
kind_back kinds.Text = refl
kind_back kinds.List = refl
kind_back kinds.Element = refl
kind_back kinds.Table = refl
kind_back kinds.Hash = refl
kind_back kinds.HashEntry = refl
kind_back kinds.Name = refl
kind_back kinds.Source = refl
kind_back kinds.Object = refl
kind_back kinds.Extent = refl
kind_back kinds.Capsule = refl
kind_back kinds.Ticket = refl

-- a block of a kind's number is of the kind
pub same_kind : (kind other : Kind) → (kind_number kind == kind_number other) ≡ true → kind ≡ other
same_kind kind other same =
    same_Some kind other (sym (kind_back kind) ∙ ap kind_of (eqb-true (kind_number kind) (kind_number other) same) ∙ kind_back other)

-- there is a block of a kind, in its form
pub record IsOf (block : Option Block) (kind : Kind) : Type 0 where
  pub own : Block
  pub is : block ≡ Some own
  pub kind_is : own.kind ≡ kind
  pub bytes : AreBytes own.bytes
  pub form : HasForm kind own.bytes

-- a word of 0 or 1 tells a yes or no
pub flag_back : (n : ℕ) → n ≤ 1 → n ≡ flag_word (n == 1)
flag_back zero few = refl
flag_back (suc zero) few = refl
flag_back (suc (suc n)) few = absurd (omega (arith, few))

zeros_are : (bytes : List ℕ) → All (λ byte. byte ≡ 0) bytes → bytes ≡ replicate (length bytes) 0
zeros_are [] all = refl
zeros_are (x ∷ xs) all = λ i. All-head (λ byte. byte ≡ 0) x xs all i ∷ zeros_are xs (All-tail (λ byte. byte ≡ 0) x xs all) i

-- a name in 32 bytes is that of what is read of it
name_back : (bytes : List ℕ) → IsNameField bytes → bytes ≡ name_bytes (name_in bytes)
name_back [] field = let e = field.count in absurd (omega (arith, e))
name_back (k ∷ xs) field =
    let count = field.count in
    let short : k ≤ 31 = field.short in
    let long : length (take k xs) ≡ k = length-take k xs ∙ omega (arith, count, short) in
    let past : drop (1 + k) (k ∷ xs) ≡ drop k xs = ap (λ (n : ℕ). drop n (k ∷ xs)) (let e : 1 + k ≡ suc k = omega arith in e) in
    let zeros = zeros_are (drop k xs) (subst (All (λ byte. byte ≡ 0)) past field.zeros) in
    let d = length-drop k xs in
    let many : length (drop k xs) ≡ 31 - length (take k xs) = omega (arith, d, long, count, short) in
    (λ i. sym long i ∷ (sym (take-append-drop k xs) ∙ ap (λ (rest : List ℕ). take k xs ++ rest) (zeros ∙ ap (λ (n : ℕ). replicate n 0) many)) i)

module _ (heap : View) (readable : IsReadable heap) where
  pub block_is : (kind : Kind) (addr : ℕ) → is_kind kind (heap.blocks addr) ≡ true → IsOf (heap.blocks addr) kind
  block_is kind addr is = by_block (heap.blocks addr) refl is
    where
      by_block : (o : Option Block) → heap.blocks addr ≡ o → is_kind kind o ≡ true → IsOf o kind
      by_block None at none = let d : false ≡ true = none in cc
      by_block (Some block) at same =
          let k = same_kind block.kind kind same in
          record {
            own = block;
            is = refl;
            kind_is = k;
            bytes = readable.bytes addr block at;
            form = subst (λ (other : Kind). HasForm other block.bytes) k (readable.form addr block at);
          }

  module _ (kind : Kind) (addr : ℕ) (b : IsOf (heap.blocks addr) kind) where
    -- a block of a kind, its first words, and the bytes behind them
    pub laid : (count : ℕ) → 8 * count ≤ length b.own.bytes →
        heap.blocks addr ≡ Some (record { kind = kind; bytes = layout (words_of (heap.blocks addr) 0 count) (behind_words (heap.blocks addr) count) })
    laid count inside =
        b.is
        ∙ (λ i. Some (record { kind = b.kind_is i; bytes = sym whole i }))
        ∙ ap (λ (o : Option Block). Some (record { kind = kind; bytes = layout (words_of o 0 count) (behind_words o count) })) (sym b.is)
      where
        whole : layout (words_of (Some b.own) 0 count) (drop (8 * count) b.own.bytes) ≡ b.own.bytes
        whole =
            ap (λ (n : ℕ). layout (words_of (Some b.own) 0 count) (drop n b.own.bytes)) (let e : 8 * count ≡ 8 * (0 + count) = omega arith in e)
            ∙ layout-words_of b.own 0 count b.bytes (omega (arith, inside))

    -- nothing stands behind its words where they are all of it
    pub none_behind : (count : ℕ) → length b.own.bytes ≡ 8 * count → behind_words (heap.blocks addr) count ≡ []
    none_behind count long =
        ap (λ (o : Option Block). behind_words o count) b.is
        ∙ ap (λ (n : ℕ). drop n b.own.bytes) (sym long) ∙ drop-length b.own.bytes

  pub elements_back : (list : ℕ) → ReadsBack heap (owners.List list) addr_of (element_block list) (element_read heap)
  elements_back list = record {
    at = λ a. refl;
    is = λ before a member named.
        let b = block_is kinds.Element a member in
        let form = b.form in
        let both = and_parts (word_of (heap.blocks a) 0 == list) (word_of (heap.blocks a) 1 == before) named in
        laid kinds.Element a b 4 (omega (arith, form))
        ∙ (λ i. Some (record {
          kind = kinds.Element;
          bytes =
              layout
              (eqb-true (word_of (heap.blocks a) 0) list both.0 i ∷ eqb-true (word_of (heap.blocks a) 1) before both.1 i ∷ word_of (heap.blocks a) 2
              ∷ word_of (heap.blocks a) 3 ∷ []) (none_behind kinds.Element a b 4 form i);
        }));
  }

  pub items_back : (hash front : ℕ) → ReadsBack heap (owners.Bucket hash front) item_addr item_block (item_read heap)
  items_back hash front = record {
    at = λ a. refl;
    is = λ before a member named. let b = block_is kinds.HashEntry a member in laid kinds.HashEntry a b 2 b.form;
  }

  pub headers_back : (object : ℕ) → ReadsBack heap (owners.Headers object) capsule_addr capsule_block (capsule_read heap)
  headers_back object = record {
    at = λ a. refl;
    is = λ before a member named. let b = block_is kinds.Capsule a member in laid kinds.Capsule a b 1 b.form;
  }

  pub trailers_back : (object : ℕ) → ReadsBack heap (owners.Trailers object) capsule_addr capsule_block (capsule_read heap)
  trailers_back object = record {
    at = λ a. refl;
    is = λ before a member named. let b = block_is kinds.Capsule a member in laid kinds.Capsule a b 1 b.form;
  }

  pub extents_back : (object : ℕ) → ReadsBack heap (owners.Extents object) extent_addr extent_block (extent_read heap)
  extents_back object = record {
    at = λ a. refl;
    is = λ before a member named.
        let b = block_is kinds.Extent a member in
        let form = b.form in
        laid kinds.Extent a b 4 (omega (arith, form))
        ∙ ap (λ (rest : List ℕ). Some (record { kind = kinds.Extent; bytes = layout (words_of (heap.blocks a) 0 4) rest })) (none_behind kinds.Extent a b 4 form);
  }

  pub names_back : ReadsBack heap owners.Catalogue name_addr name_block (name_read heap)
  names_back = record {
    at = λ a. refl;
    is = λ before a member named.
        let b = block_is kinds.Name a member in
        let count = b.form.count in
        let long = length-drop 24 b.own.bytes in
        laid kinds.Name a b 3 (omega (arith, count, long))
        ∙ ap (λ (rest : List ℕ). Some (record { kind = kinds.Name; bytes = layout (words_of (heap.blocks a) 0 3) rest }))
        (subst (λ (o : Option Block). behind_words o 3 ≡ name_bytes (name_in (behind_words o 3))) (sym b.is) (name_back (drop 24 b.own.bytes) b.form));
  }

  pub tickets_back : (account : Acct) → ReadsBack heap (owners.Queue account) ticket_addr (ticket_block account) (ticket_read heap)
  tickets_back account = record {
    at = λ a. refl;
    is = λ before a member named.
        let b = block_is kinds.Ticket a member in
        let count = b.form.count in
        let w = word_of (heap.blocks a) in
        laid kinds.Ticket a b 12 (omega (arith, count))
        ∙ (λ i. Some (record {
          kind = kinds.Ticket;
          bytes =
              layout
              (w 0 ∷ eqb-true (w 1) (account_number account) named i ∷ w 2 ∷ w 3 ∷ w 4 ∷ w 5 ∷ w 6 ∷ w 7 ∷ w 8 ∷ w 9 ∷ granted a b i ∷ w 11 ∷ [])
              (none_behind kinds.Ticket a b 12 count i);
        }));
  }
    where
      granted : (a : ℕ) (b : IsOf (heap.blocks a) kinds.Ticket) → word_of (heap.blocks a) 10 ≡ flag_word (word_of (heap.blocks a) 10 == 1)
      granted a b =
          let count = b.form.count in
          let few = b.form.granted in
          let word : word_of (heap.blocks a) 10 ≡ number_at 80 b.own.bytes =
          ap (λ (o : Option Block). word_of o 10) b.is
          ∙ ap (λ (t : Bool). cond t (number_at 80 b.own.bytes) 0) (lt-ltb 10 (length b.own.bytes / 8) (omega (arith, count))) in
          flag_back (word_of (heap.blocks a) 10) (omega (arith, word, few))
