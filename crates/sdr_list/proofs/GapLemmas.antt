-- A list is opened at a place, changed there, and closed.
use Rattle.std.proofs.Common.{◌≡◌, ◌≢◌, ℕ, List, [], ◌∷◌, ◌++◌, length, Some}
use Rattle.std.proofs.Common.{refl, sym, ap, ◌∙◌, arith, subst, append_assoc}
use Rattle.sdr_base.specs.Blocks.{Block, Blocks, Reaches}
use Rattle.sdr_base.specs.Entries.{Entries, BlocksAre}
use Rattle.sdr_base.specs.Linked.{first_of, last_of, linked}
use Rattle.sdr_base.specs.Lists.{ListElement, ListRow, addr_of, element_block, elements_between, list_block, list_entries}
use Rattle.sdr_base.specs.Objects.{Heap, with_given}
use Rattle.sdr_base.specs.Words.{TakesBytes, layout, with_word}
use Rattle.sdr_base.specs.declared.kind.Kind.TheVariants as kinds
use Rattle.sdr_base.proofs.HeapLemmas.{given_blocks, heap_blocks}
use Rattle.sdr_base.proofs.LinkedLemmas.{first-append, last-append, linked-append}
use Rattle.sdr_base.proofs.StandingLemmas.{came, found, went}
use Rattle.sdr_base.proofs.WritingLemmas.{block, reaches, word_set}
use Rattle.sdr_list.specs.Gaps.{Gap, Opened, gap_entries}
use Rattle.sdr_base.proofs.ChainLemmas.{last_holds, linked-around}
use Rattle.sdr_list.proofs.KeptLemmas.{words}

-- a list with these elements
abbrev pub row_of : ℕ → List ListElement → ListRow
row_of user elements = record { user = user; elements = elements }

-- opened between two parts, with nothing between them
abbrev pub shut : ℕ → List ListElement → List ListElement → Gap
shut user xs ys = record {
  user = user;
  count = length (xs ++ ys);
  before = xs;
  behind = ys;
  next = first_of addr_of 0 ys;
  previous = last_of addr_of 0 xs;
  between = [];
}

-- opened around an element
abbrev pub filled : ℕ → ℕ → List ListElement → ListElement → List ListElement → Gap
filled list user xs x ys = record {
  user = user;
  count = length (xs ++ (x ∷ ys));
  before = xs;
  behind = ys;
  next = x.addr;
  previous = x.addr;
  between = (x.addr, element_block list (last_of addr_of 0 xs) (first_of addr_of 0 ys) x) ∷ [];
}

pub shut_is : (list user : ℕ) (xs ys : List ListElement) (rest : Entries) →
    list_entries list (row_of user (xs ++ ys)) ++ rest ≡ gap_entries list (shut user xs ys) rest
shut_is list user xs ys rest =
    let A : Entries = elements_between list 0 (first_of addr_of 0 ys) xs in
    let B : Entries = elements_between list (last_of addr_of 0 xs) 0 ys in
    ap (λ (es : Entries). (list, list_block user (length (xs ++ ys)) (first_of addr_of 0 (xs ++ ys)) (last_of addr_of 0 (xs ++ ys))) ∷ es)
    (ap (λ (es : Entries). es ++ rest) (linked-append addr_of (element_block list) 0 0 xs ys) ∙ append_assoc A B rest)
    ∙ ap (λ first. (list, list_block user (length (xs ++ ys)) first (last_of addr_of 0 (xs ++ ys))) ∷ (A ++ (B ++ rest)))
    (first-append addr_of (element_block list) 0 xs ys)
    ∙ ap (λ last. (list, list_block user (length (xs ++ ys)) (first_of addr_of (first_of addr_of 0 ys) xs) last) ∷ (A ++ (B ++ rest)))
    (last-append addr_of (element_block list) 0 xs ys)

pub filled_is : (list user : ℕ) (xs : List ListElement) (x : ListElement) (ys : List ListElement) (rest : Entries) →
    list_entries list (row_of user (xs ++ (x ∷ ys))) ++ rest ≡ gap_entries list (filled list user xs x ys) rest
filled_is list user xs x ys rest =
    let n = length (xs ++ (x ∷ ys)) in
    let A : Entries = elements_between list 0 x.addr xs in
    let B : Entries = elements_between list x.addr 0 ys in
    let E : ℕ × Block = (x.addr, element_block list (last_of addr_of 0 xs) (first_of addr_of 0 ys) x) in
    ap (λ (es : Entries). (list, list_block user n (first_of addr_of 0 (xs ++ (x ∷ ys))) (last_of addr_of 0 (xs ++ (x ∷ ys)))) ∷ es)
    (ap (λ (es : Entries). es ++ rest) (linked-around addr_of (element_block list) 0 0 xs x ys) ∙ append_assoc A (E ∷ B) rest)
    ∙ ap (λ first. (list, list_block user n first (last_of addr_of 0 (xs ++ (x ∷ ys)))) ∷ (A ++ (E ∷ (B ++ rest))))
    (first-append addr_of (element_block list) 0 xs (x ∷ ys))
    ∙ ap (λ last. (list, list_block user n (first_of addr_of x.addr xs) last) ∷ (A ++ (E ∷ (B ++ rest))))
    (last-append addr_of (element_block list) 0 xs (x ∷ ys))

-- the list's block is there
pub opened_reaches : {b : Blocks} {list : ℕ} {gap : Gap} {rest : Entries} → Opened b list gap rest → Reaches (b list) 32
opened_reaches {b} {list} {gap} {rest} s =
    let ws = words gap.user gap.count (first_of addr_of gap.next gap.before) (last_of addr_of gap.previous gap.behind) in
    reaches (b list) kinds.List ws [] 32
    (found b list (block kinds.List (layout ws [])) []
    (elements_between list 0 gap.next gap.before
    ++ (gap.between ++ (elements_between list gap.previous 0 gap.behind ++ rest))) s.stands) (omega arith)

four_words : (a b c d : ℕ) → Reaches (Some (block kinds.Element (layout (words a b c d) []))) 32
four_words a b c d = reaches (Some (block kinds.Element (layout (words a b c d) []))) kinds.Element (words a b c d) [] 32 refl (omega arith)

before_by : (b : Blocks) (list prev first last user count next : ℕ) (xs : List ListElement) (more : Entries) → prev ≡ last_of addr_of 0 xs → prev ≢ 0 →
    BlocksAre b ((list, list_block user count first last) ∷ (elements_between list 0 next xs ++ more)) → Reaches (b prev) 32
before_by b list prev first last user count next [] more e nz s = absurd (nz e)
before_by b list prev first last user count next (x ∷ xs) more e nz s =
    subst (λ p. Reaches (b p) 32) (sym e)
    (last_holds addr_of (element_block list) (λ o. Reaches o 32) b ((list, list_block user count first last) ∷ []) more 0 next x xs
    (λ p y. four_words list p next y.datum) s)

-- the block of the element before the place is there
pub before_reaches : {b : Blocks} {list prev : ℕ} {gap : Gap} {rest : Entries} → Opened b list gap rest →
    prev ≡ last_of addr_of 0 gap.before → prev ≢ 0 → Reaches (b prev) 32
before_reaches {b} {list} {prev} {gap} {rest} s e nz =
    before_by b list prev (first_of addr_of gap.next gap.before) (last_of addr_of gap.previous gap.behind) gap.user gap.count
    gap.next gap.before (gap.between ++ (elements_between list gap.previous 0 gap.behind ++ rest)) e nz s.stands

behind_by : (b : Blocks) (list next previous : ℕ) (ys : List ListElement) (before rest : Entries) → next ≡ first_of addr_of 0 ys → next ≢ 0 →
    BlocksAre b (before ++ (elements_between list previous 0 ys ++ rest)) → Reaches (b next) 32
unfolding linked
behind_by b list next previous [] before rest e nz s = absurd (nz e)
behind_by b list next previous (y ∷ ys) before rest e nz s =
    subst (λ p. Reaches (b p) 32) (sym e)
    (subst (λ o. Reaches o 32)
    (sym (found b y.addr (element_block list previous (first_of addr_of 0 ys) y) before (elements_between list y.addr 0 ys ++ rest) s))
    (four_words list previous (first_of addr_of 0 ys) y.datum))

-- the block of the element behind the place is there
pub behind_reaches : {b : Blocks} {list next : ℕ} {gap : Gap} {rest : Entries} → Opened b list gap rest →
    next ≡ first_of addr_of 0 gap.behind → next ≢ 0 → Reaches (b next) 32
behind_reaches {b} {list} {next} {gap} {rest} s e nz =
    let H : ℕ × Block = (list, list_block gap.user gap.count (first_of addr_of gap.next gap.before) (last_of addr_of gap.previous gap.behind)) in
    behind_by b list next gap.previous gap.behind (H ∷ (elements_between list 0 gap.next gap.before ++ gap.between)) rest e nz
    (subst (λ (es : Entries). BlocksAre b (H ∷ es))
    (sym (append_assoc (elements_between list 0 gap.next gap.before) gap.between (elements_between list gap.previous 0 gap.behind ++ rest)))
    s.stands)

-- a block that was taken stands between
pub taken_between : {list e : ℕ} {old new : Heap} {rest : Entries} (ws : List ℕ) (gap : Gap) → TakesBytes kinds.Element (layout ws []) e old new →
    Opened old.blocks list (record gap { between = [] }) rest →
    Opened new.blocks list (record gap { between = (e, block kinds.Element (layout ws [])) ∷ [] }) rest
taken_between {list} {e} {old} {new} {rest} ws gap t s =
    let H : ℕ × Block = (list, list_block gap.user gap.count (first_of addr_of gap.next gap.before) (last_of addr_of gap.previous gap.behind)) in
    let A : Entries = elements_between list 0 gap.next gap.before in
    let B : Entries = elements_between list gap.previous 0 gap.behind in
    record {
      stands =
          subst (λ (b : Blocks). BlocksAre b (H ∷ (A ++ ((e, block kinds.Element (layout ws [])) ∷ (B ++ rest)))))
          (sym (ap (λ (h : Heap). h.blocks) t.taken))
          (came old.blocks e (block kinds.Element (layout ws [])) (H ∷ A) (B ++ rest) t.nonzero t.fresh s.stands);
    }

-- a block that was given back stands there no more
pub given_between : {list e : ℕ} {it : Block} {rest : Entries} (old new : Heap) (gap : Gap) → new ≡ with_given old e →
    Opened old.blocks list (record gap { between = (e, it) ∷ [] }) rest → Opened new.blocks list (record gap { between = [] }) rest
given_between {list} {e} {it} {rest} old new gap g s =
    let H : ℕ × Block = (list, list_block gap.user gap.count (first_of addr_of gap.next gap.before) (last_of addr_of gap.previous gap.behind)) in
    let A : Entries = elements_between list 0 gap.next gap.before in
    let B : Entries = elements_between list gap.previous 0 gap.behind in
    record {
      stands =
          subst (λ (b : Blocks). BlocksAre b (H ∷ (A ++ (B ++ rest)))) (sym (given_blocks e old new g))
          (went old.blocks e it (H ∷ A) (B ++ rest) s.stands);
    }

-- the block between is there
pub between_reaches : {b : Blocks} {list e : ℕ} {rest : Entries} {it : Block} (gap : Gap) →
    Opened b list (record gap { between = (e, it) ∷ [] }) rest → Reaches (b e) 0
between_reaches {b} {list} {e} {rest} {it} gap s =
    let H : ℕ × Block = (list, list_block gap.user gap.count (first_of addr_of gap.next gap.before) (last_of addr_of gap.previous gap.behind)) in
    let A : Entries = elements_between list 0 gap.next gap.before in
    subst (λ o. Reaches o 0)
    (sym (found b e it (H ∷ A) (elements_between list gap.previous 0 gap.behind ++ rest) s.stands)) (omega arith)

-- the count was set
pub recounted : {list : ℕ} {gap : Gap} {rest : Entries} (old new : Heap) (n : ℕ) → new ≡ with_word old list 1 n → Opened old.blocks list gap rest →
    Opened new.blocks list (record gap { count = n }) rest
recounted {list} {gap} {rest} old new n w s = record {
  stands =
      word_set old.blocks new.blocks list kinds.List
      (words gap.user gap.count (first_of addr_of gap.next gap.before) (last_of addr_of gap.previous gap.behind)) [] 1 n []
      (elements_between list 0 gap.next gap.before
      ++ (gap.between ++ (elements_between list gap.previous 0 gap.behind ++ rest))) (heap_blocks w) (omega arith) s.stands;
}
