-- What the layouts of blocks say of their bytes.
use Rattle.std.proofs.Common.{◌≡◌, ◌≤◌, ◌<◌, ◌+◌, ◌*◌, ◌/◌, ◌==◌, ◌^◌, ℕ, Bool, List, [], ◌∷◌, cond, not, true, false, length, get_or, take, drop, arith, ap, ◌∙◌, refl, sym, subst}
use Rattle.std.specs.Prelude.{All, Option, Some, nat_lt}
use Rattle.std.specs.List.{list_all}
use Rattle.std.proofs.lemmas.Bool.{and_parts, eqb-true, leb-true, lt-ltb, ltb-true, or_parts}
use Rattle.std.proofs.lemmas.List.{drop-drop, get_or-drop, get_or-take, length-drop, take_all}
use Rattle.std.proofs.lemmas.List.Elements.{All-cons, All-nil}
use Rattle.sdr_base.proofs.StoredLemmas.{big_from-same}
use Rattle.sdr_base.specs.Blocks.{Block}
use Rattle.sdr_base.specs.Stored.{number_at}
use Rattle.sdr_base.specs.declared.kind.Kind.{Kind}
use Rattle.sdr_base.specs.declared.kind.Kind.TheVariants as kinds
use Rattle.sdr_model.specs.Limits.{is_no_name}
use Rattle.audit_owners.specs.Reading.{HasForm}
use Rattle.audit_owners.specs.View.{word_of}
use Rattle.audit_blocks.specs.Content.{field, has_layout, is_flag, told_bytes}

-- a block has what its kind's layout asks
abbrev pub HasLayout : Kind → List ℕ → Type 0
HasLayout kind bytes = has_layout kind (length bytes) (take told_bytes bytes) ≡ true

-- the first bytes tell a number as all do
pub number_taken : (place : ℕ) (bytes : List ℕ) → place + 8 ≤ 96 → number_at place (take 96 bytes) ≡ number_at place bytes
unfolding number_at
number_taken place bytes few =
    big_from-same place place 8 bytes (take 96 bytes) (λ i less. get_or-take 96 bytes (place + i) 0 (omega (arith, few, less)))

-- a word of a block is the number there
pub word_is : (o : Option Block) (block : Block) (n : ℕ) → o ≡ Some block → 8 * n + 8 ≤ length block.bytes →
    word_of o n ≡ number_at (8 * n) block.bytes
word_is o block n is inside =
    let within : n < length block.bytes / 8 = omega (arith, inside) in
    ap (λ (b : Option Block). word_of b n) is
    ∙ ap (λ (t : Bool). cond t (number_at (8 * n) block.bytes) 0) (lt-ltb n (length block.bytes / 8) within)

-- one of the first words is what the first bytes tell
pub word_told : (o : Option Block) (block : Block) (n : ℕ) → o ≡ Some block → 8 * n + 8 ≤ length block.bytes → n < 12 →
    word_of o n ≡ field (take told_bytes block.bytes) n
word_told o block n is inside few =
    word_is o block n is inside ∙ sym (number_taken (8 * n) block.bytes (omega (arith, few)))

zeros_all : (xs : List ℕ) → list_all (λ byte. byte == 0) xs ≡ true → All (λ byte. byte ≡ 0) xs
zeros_all [] all = All-nil (λ byte. byte ≡ 0)
zeros_all (x ∷ xs) all =
    let p = and_parts (x == 0) (list_all (λ byte. byte == 0) xs) all in
    All-cons (λ byte. byte ≡ 0) x xs (eqb-true x 0 p.0) (zeros_all xs p.1)

not_true : (b : Bool) → not b ≡ true → b ≡ false
not_true true is = let d : false ≡ true = is in cc
not_true false is = refl

-- a length that is that of a name is at most 31
name_short : (n : ℕ) → not (is_no_name n) ≡ true → n ≤ 31
name_short n is =
    let p = or_parts (nat_lt n 1) (nat_lt 31 n) (not_true (is_no_name n) is) in
    by (nat_lt 31 n) refl p.1
  where
    by : (b : Bool) → nat_lt 31 n ≡ b → nat_lt 31 n ≡ false → n ≤ 31
    by b is off = grind (arith, off)

-- what the layout of a name asks of its first bytes, and of its length
pub record IsName (count : ℕ) (first : List ℕ) : Type 0 where
  pub long : count ≡ 56
  pub small : field first 1 < 2 ^ 32
  pub named : not (is_no_name (get_or first 24 0)) ≡ true
  pub zeros : list_all (λ byte. byte == 0) (drop (25 + get_or first 24 0) first) ≡ true

pub is_name_so : (bytes : List ℕ) → HasLayout kinds.Name bytes → IsName (length bytes) (take 96 bytes)
is_name_so bytes l =
    let first : List ℕ = take 96 bytes in
    let p = and_parts _ (list_all (λ byte. byte == 0) (drop (25 + get_or first 24 0) first)) l in
    let q = and_parts _ (not (is_no_name (get_or first 24 0))) p.0 in
    let r = and_parts (length bytes == 56) (nat_lt (field first 1) (2 ^ 32)) q.0 in
    record {
      long = eqb-true (length bytes) 56 r.0;
      small = ltb-true (field first 1) (2 ^ 32) r.1;
      named = q.1;
      zeros = p.1;
    }

-- a block with what its kind's layout asks has its kind's form
pub form_of : (kind : Kind) (bytes : List ℕ) → HasLayout kind bytes → HasForm kind bytes
form_of kinds.Raw bytes l = tt
form_of kinds.Text bytes l = tt
form_of kinds.List bytes l = tt
form_of kinds.Element bytes l = eqb-true (length bytes) 32 l
form_of kinds.Table bytes l = tt
form_of kinds.Hash bytes l = tt
form_of kinds.HashEntry bytes l = leb-true 16 (length bytes) (and_parts _ _ l).0
form_of kinds.Name bytes l =
    let first : List ℕ = take 96 bytes in
    let named = is_name_so bytes l in
    let count = named.long in
    let whole : first ≡ bytes = take_all 96 bytes (omega (arith, count)) in
    let mark : get_or (drop 24 bytes) 0 0 ≡ get_or first 24 0 = get_or-drop 24 bytes 0 0 ∙ ap (λ (b : List ℕ). get_or b 24 0) (sym whole) in
    let short = name_short (get_or first 24 0) named.named in
    let cut : drop (1 + get_or (drop 24 bytes) 0 0) (drop 24 bytes) ≡ drop (25 + get_or first 24 0) first =
    ap (λ (n : ℕ). drop (1 + n) (drop 24 bytes)) mark
    ∙ drop-drop (1 + get_or first 24 0) 24 bytes
    ∙ ap (λ (n : ℕ). drop n bytes) (let e : 24 + (1 + get_or first 24 0) ≡ 25 + get_or first 24 0 = omega arith in e)
    ∙ ap (λ (b : List ℕ). drop (25 + get_or first 24 0) b) (sym whole) in
    record {
      count = length-drop 24 bytes ∙ omega (arith, count);
      short = omega (arith, mark, short);
      zeros = subst (All (λ byte. byte ≡ 0)) (sym cut) (zeros_all (drop (25 + get_or first 24 0) first) named.zeros);
    }
form_of kinds.Source bytes l = tt
form_of kinds.Object bytes l = tt
form_of kinds.Extent bytes l = eqb-true (length bytes) 32 l
form_of kinds.Capsule bytes l = leb-true 8 (length bytes) (and_parts _ _ l).0
form_of kinds.Ticket bytes l =
    let first : List ℕ = take 96 bytes in
    let outer = and_parts _ (is_flag (field first 10)) l in
    let granted = leb-true (field first 10) 1 outer.1 in
    let same = number_taken 80 bytes (omega arith) in
    record { count = ticket_count bytes l; granted = omega (arith, granted, same) }
  where
    ticket_count : (bytes : List ℕ) → HasLayout kinds.Ticket bytes → length bytes ≡ 96
    ticket_count bytes l =
        let a = and_parts _ _ l in
        let b = and_parts _ _ a.0 in
        let c = and_parts _ _ b.0 in
        let d = and_parts _ _ c.0 in
        let e = and_parts _ _ d.0 in
        let f = and_parts _ _ e.0 in
        let g = and_parts _ _ f.0 in
        let h = and_parts _ _ g.0 in
        eqb-true (length bytes) 96 h.0
