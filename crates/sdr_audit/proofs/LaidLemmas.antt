-- Each block of a world has what its kind's layout asks.
use Rattle.std.proofs.Common.{◌≡◌, ◌≤◌, ◌<◌, ◌+◌, ◌-◌, ◌*◌, ◌^◌, ◌==◌, ◌&&◌, ◌||◌, ℕ, zero, suc, Bool, true, false, cond, not, List, [], ◌∷◌, ◌++◌, length, get_or, take, drop, arith, refl, sym, ap, ◌∙◌}
use Rattle.std.specs.Prelude.{nat_le, nat_lt, replicate}
use Rattle.std.specs.List.{All, list_all}
use Rattle.std.proofs.lemmas.Bool.{and_from, eq-eqb, le-leb, le-ltb, lt-ltb}
use Rattle.std.proofs.lemmas.List.{drop-drop, get_or-drop, get_or-take, length-append, length-replicate, take_all}
use Rattle.byteorder.specs.Endian.{big_bytes}
use Rattle.sdr_base.proofs.LayoutLemmas.{length-layout, number_at-layout}
use Rattle.sdr_base.proofs.StoredLemmas.{number_at-same}
use Rattle.sdr_base.specs.Blocks.{Block}
use Rattle.sdr_base.specs.Catalogue.{name_bytes}
use Rattle.sdr_base.specs.Linked.{linked}
use Rattle.sdr_base.specs.Sources.{flag_word}
use Rattle.sdr_base.specs.Tickets.{TicketRow, ticket_block, ticket_words}
use Rattle.sdr_base.specs.Words.{layout}
use Rattle.sdr_base.specs.ZcoObjects.{account_number}
use Rattle.sdr_base.specs.declared.account.Acct.{Acct}
use Rattle.sdr_base.specs.declared.account.Acct.TheVariants as accts
use Rattle.sdr_base.specs.declared.kind.Kind.{Kind}
use Rattle.sdr_base.specs.declared.kind.Kind.TheVariants as kinds
use Rattle.sdr_model.specs.Limits.{is_no_path}
use Rattle.audit_blocks.specs.Content.{field, has_layout}
use Rattle.sdr_audit.proofs.SoundStandLemmas.{All-linked}

abbrev pub IsLaid : Block → Type 0
IsLaid block = has_layout block.kind (length block.bytes) (take 96 block.bytes) ≡ true

-- a word that is laid out stands so in the first bytes
field_laid : (words rest : List ℕ) (n : ℕ) → n < length words → 8 * n + 8 ≤ 96 → get_or words n 0 < 2 ^ 64 → field (take 96 (layout words rest)) n ≡ get_or words n 0
field_laid words rest n less inside few =
    number_at-same (8 * n) (layout words rest) (take 96 (layout words rest)) (λ i from to. get_or-take 96 (layout words rest) i 0 (omega (arith, to, inside)))
    ∙ number_at-layout words rest n less few

count_laid : (words rest : List ℕ) (n : ℕ) → 8 * length words + length rest ≡ n → length (layout words rest) ≡ n
count_laid words rest n is = length-layout words rest ∙ is

-- what a chain's blocks do, each does
pub linked_laid : {X : Type 0} (addr : X → ℕ) (block : ℕ → ℕ → X → Block) (R : X → Type 0) → ((before next : ℕ) (x : X) → R x → IsLaid (block before next x)) →
    (before next : ℕ) (xs : List X) → All R xs → All (λ (e : ℕ × Block). IsLaid e.1) (linked addr block before next xs)
linked_laid addr block R each = All-linked (λ (e : ℕ × Block). IsLaid e.1) addr block R each

-- blocks of words alone
pub words_laid : (kind : Kind) (words : List ℕ) (n : ℕ) → ((first : List ℕ) → has_layout kind n first ≡ true) → 8 * length words ≡ n →
    IsLaid (record { kind = kind; bytes = layout words [] })
words_laid kind words n right is =
    ap (λ (c : ℕ). has_layout kind c (take 96 (layout words []))) (count_laid words [] n (omega (arith, is))) ∙ right (take 96 (layout words []))

-- a raw object
pub raw_laid : (named_by : ℕ) (text : List ℕ) → length text ≤ 1048576 → IsLaid (record { kind = kinds.Raw; bytes = layout (named_by ∷ []) text })
raw_laid named_by text few =
    let c = length-layout (named_by ∷ []) text in
    and_from _ _ (le-leb 8 (length (layout (named_by ∷ []) text)) (omega (arith, c))) (le-leb (length (layout (named_by ∷ []) text)) (8 + 1048576) (omega (arith, c, few)))

-- a string
pub text_laid : (text : List ℕ) → length text ≤ 255 → IsLaid (record { kind = kinds.Text; bytes = length text ∷ text })
text_laid text few =
    let first : get_or (take 96 (length text ∷ text)) 0 0 ≡ length text = get_or-take 96 (length text ∷ text) 0 0 (omega arith) in
    and_from _ _ (and_from _ _ (le-leb 1 (length (length text ∷ text)) (omega arith)) (eq-eqb _ _ (sym (let e : 1 + get_or (take 96 (length text ∷ text)) 0 0 ≡ length (length text ∷ text) = omega (arith, first) in e))))
    (le-leb (get_or (take 96 (length text ∷ text)) 0 0) 255 (omega (arith, first, few)))

-- an entry of a hash
pub item_laid : (next : ℕ) (value : ℕ) (key : List ℕ) → 1 ≤ length key → length key ≤ 255 → IsLaid (record { kind = kinds.HashEntry; bytes = layout (next ∷ value ∷ []) key })
item_laid next value key least most =
    let c = length-layout (next ∷ value ∷ []) key in
    let n : ℕ = length (layout (next ∷ value ∷ []) key) in
    and_from _ _ (le-leb 16 (length (layout (next ∷ value ∷ []) key)) (omega (arith, c)))
    (and_from _ _ (le-leb 1 (length (layout (next ∷ value ∷ []) key) - 16) (omega (arith, c, least))) (le-leb (length (layout (next ∷ value ∷ []) key) - 16) 255 (omega (arith, c, most))))

-- a header or trailer
pub capsule_laid : (next : ℕ) (text : List ℕ) → 1 ≤ length text → length text ≤ 1024 → IsLaid (record { kind = kinds.Capsule; bytes = layout (next ∷ []) text })
capsule_laid next text least most =
    let c = length-layout (next ∷ []) text in
    and_from _ _ (le-leb 8 (length (layout (next ∷ []) text)) (omega (arith, c)))
    (λ i. not (le-ltb (length (layout (next ∷ []) text) - 8) 1 (omega (arith, c, least)) i || le-ltb 1024 (length (layout (next ∷ []) text) - 8) (omega (arith, c, most)) i))

-- a table
pub table_laid : (user size rows : ℕ) (cells : List ℕ) → size ≤ 1048576 → rows ≤ 1048576 → rows * size ≤ 1048576 → length cells ≡ rows * size →
    IsLaid (record { kind = kinds.Table; bytes = layout (user ∷ size ∷ rows ∷ []) cells })
table_laid user size rows cells wide many all is =
    let words : List ℕ = user ∷ size ∷ rows ∷ [] in
    let s = field_laid (user ∷ size ∷ rows ∷ []) cells 1 (omega arith) (omega arith) (omega (arith, wide)) in
    let r = field_laid (user ∷ size ∷ rows ∷ []) cells 2 (omega arith) (omega arith) (omega (arith, many)) in
    let c : length (layout (user ∷ size ∷ rows ∷ []) cells) ≡ 24 + rows * size = count_laid (user ∷ size ∷ rows ∷ []) cells (24 + rows * size) (omega (arith, is)) in
    (λ i. nat_le 24 (c i) && nat_le (s i) 1048576 && nat_le (r i) 1048576 && nat_le (r i * s i) 1048576 && c i == 24 + r i * s i)
    ∙ and_from _ _ (and_from _ _ (and_from _ _ (and_from _ _ (le-leb 24 (24 + rows * size) (omega arith)) (le-leb size 1048576 wide)) (le-leb rows 1048576 many))
    (le-leb (rows * size) 1048576 all)) (eq-eqb (24 + rows * size) (24 + rows * size) refl)

-- a hash
pub hash_laid : (key buckets entries : ℕ) (fronts : List ℕ) → 1 ≤ key → key ≤ 255 → 1 ≤ buckets → buckets ≤ 256 → length fronts ≡ buckets →
    IsLaid (record { kind = kinds.Hash; bytes = layout (key ∷ buckets ∷ entries ∷ fronts) [] })
hash_laid key buckets entries fronts k k' b b' is =
    let f = field_laid (key ∷ buckets ∷ entries ∷ fronts) [] 0 (omega arith) (omega arith) (omega (arith, k')) in
    let g = field_laid (key ∷ buckets ∷ entries ∷ fronts) [] 1 (omega arith) (omega arith) (omega (arith, b')) in
    let c : length (layout (key ∷ buckets ∷ entries ∷ fronts) []) ≡ 24 + 8 * buckets = count_laid (key ∷ buckets ∷ entries ∷ fronts) [] (24 + 8 * buckets) (omega (arith, is)) in
    (λ i. nat_le 24 (c i) && (nat_le 1 (f i) && nat_le (f i) 255) && nat_le 1 (g i) && nat_le (g i) 256 && c i == 24 + 8 * g i)
    ∙ and_from _ _ (and_from _ _ (and_from _ _ (and_from _ _ (le-leb 24 (24 + 8 * buckets) (omega arith)) (and_from _ _ (le-leb 1 key k) (le-leb key 255 k'))) (le-leb 1 buckets b))
    (le-leb buckets 256 b')) (eq-eqb (24 + 8 * buckets) (24 + 8 * buckets) refl)

zeros_pass : (n : ℕ) → list_all (λ byte. byte == 0) (replicate n 0) ≡ true
zeros_pass zero = refl
zeros_pass (suc n) = zeros_pass n

-- behind the words stands the rest
pub drop_layout : (words rest : List ℕ) (n : ℕ) → drop (8 * length words + n) (layout words rest) ≡ drop n rest
unfolding layout
drop_layout [] rest n = ap (λ (k : ℕ). drop k rest) (let e : 8 * 0 + n ≡ n = omega arith in e)
drop_layout (x ∷ words) rest n =
    ap (λ (k : ℕ). drop k (big_bytes 8 x ++ layout words rest)) (let e : 8 * length (x ∷ words) + n ≡ 8 + (8 * length words + n) = omega arith in e)
    ∙ sym (drop-drop (8 * length words + n) 8 (big_bytes 8 x ++ layout words rest)) ∙ drop_layout words rest n

drop_own : (xs ys : List ℕ) → drop (length xs) (xs ++ ys) ≡ ys
drop_own [] ys = refl
drop_own (x ∷ xs) ys = drop_own xs ys

-- an entry of the catalogue
pub name_laid : (next number object : ℕ) (name : List ℕ) → number < 2 ^ 32 → 1 ≤ length name → length name ≤ 31 →
    IsLaid (record { kind = kinds.Name; bytes = layout (next ∷ number ∷ object ∷ []) (name_bytes name) })
name_laid next number object name few least most =
    let words : List ℕ = next ∷ number ∷ object ∷ [] in
    let l = length-append name (replicate (31 - length name) 0) in
    let z = length-replicate {A = ℕ} (31 - length name) 0 in
    let c : length (layout (next ∷ number ∷ object ∷ []) (name_bytes name)) ≡ 56 = count_laid (next ∷ number ∷ object ∷ []) (name_bytes name) 56 (omega (arith, l, z, most)) in
    let whole : take 96 (layout (next ∷ number ∷ object ∷ []) (name_bytes name)) ≡ layout (next ∷ number ∷ object ∷ []) (name_bytes name) =
    take_all 96 (layout (next ∷ number ∷ object ∷ []) (name_bytes name)) (omega (arith, c)) in
    let kind : field (layout (next ∷ number ∷ object ∷ []) (name_bytes name)) 1 ≡ number = number_at-layout (next ∷ number ∷ object ∷ []) (name_bytes name) 1 (omega arith) (omega (arith, few)) in
    let behind : drop 24 (layout (next ∷ number ∷ object ∷ []) (name_bytes name)) ≡ name_bytes name = drop_layout (next ∷ number ∷ object ∷ []) (name_bytes name) 0 in
    let count : get_or (layout (next ∷ number ∷ object ∷ []) (name_bytes name)) 24 0 ≡ length name =
    sym (get_or-drop 24 (layout (next ∷ number ∷ object ∷ []) (name_bytes name)) 0 0) ∙ ap (λ (xs : List ℕ). get_or xs 0 0) behind in
    let rest : drop (25 + length name) (layout (next ∷ number ∷ object ∷ []) (name_bytes name)) ≡ replicate (31 - length name) 0 =
    ap (λ (k : ℕ). drop k (layout (next ∷ number ∷ object ∷ []) (name_bytes name))) (let e : 25 + length name ≡ 24 + suc (length name) = omega arith in e)
    ∙ drop_layout (next ∷ number ∷ object ∷ []) (name_bytes name) (suc (length name)) ∙ drop_own name (replicate (31 - length name) 0) in
    (λ i. c i == 56 && nat_lt (field (whole i) 1) (2 ^ 32) && not (nat_lt (get_or (whole i) 24 0) 1 || nat_lt 31 (get_or (whole i) 24 0))
    && list_all (λ byte. byte == 0) (drop (25 + get_or (whole i) 24 0) (whole i)))
    ∙ (λ i. 56 == 56 && nat_lt (kind i) (2 ^ 32) && not (nat_lt (count i) 1 || nat_lt 31 (count i))
    && list_all (λ byte. byte == 0) (drop (25 + count i) (layout (next ∷ number ∷ object ∷ []) (name_bytes name))))
    ∙ and_from _ _ (and_from _ _ (and_from _ _ (eq-eqb 56 56 refl) (lt-ltb number (2 ^ 32) few)) (λ i. not (le-ltb (length name) 1 least i || le-ltb 31 (length name) most i)))
    (ap (list_all (λ byte. byte == 0)) rest ∙ zeros_pass (31 - length name))

flag_few : (flag : Bool) → flag_word flag ≤ 1
flag_few true = omega arith
flag_few false = omega arith

account_few : (account : Acct) → account_number account ≤ 1
account_few accts.Inbound = omega arith
account_few accts.Outbound = omega arith

-- a source
pub source_laid : (medium inbound outbound subject count : ℕ) (flag : Bool) (path : List ℕ) → 1 ≤ medium → medium ≤ 4 → subject < 2 ^ 64 → count ≤ 2 ^ 40 →
    cond (medium == 1) (subject == 0 && not (is_no_path (length path))) (48 + length path == 48) ≡ true →
    IsLaid (record { kind = kinds.Source; bytes = layout (medium ∷ flag_word flag ∷ inbound ∷ outbound ∷ subject ∷ count ∷ []) path })
source_laid medium inbound outbound subject count flag path least most small few tail =
    let words : List ℕ = medium ∷ flag_word flag ∷ inbound ∷ outbound ∷ subject ∷ count ∷ [] in
    let f = flag_few flag in
    let m = field_laid (medium ∷ flag_word flag ∷ inbound ∷ outbound ∷ subject ∷ count ∷ []) path 0 (omega arith) (omega arith) (omega (arith, most)) in
    let g = field_laid (medium ∷ flag_word flag ∷ inbound ∷ outbound ∷ subject ∷ count ∷ []) path 1 (omega arith) (omega arith) (omega (arith, f)) in
    let s = field_laid (medium ∷ flag_word flag ∷ inbound ∷ outbound ∷ subject ∷ count ∷ []) path 4 (omega arith) (omega arith) small in
    let l = field_laid (medium ∷ flag_word flag ∷ inbound ∷ outbound ∷ subject ∷ count ∷ []) path 5 (omega arith) (omega arith) (omega (arith, few)) in
    let c : length (layout (medium ∷ flag_word flag ∷ inbound ∷ outbound ∷ subject ∷ count ∷ []) path) ≡ 48 + length path =
    count_laid (medium ∷ flag_word flag ∷ inbound ∷ outbound ∷ subject ∷ count ∷ []) path (48 + length path) (omega arith) in
    let d : length (layout (medium ∷ flag_word flag ∷ inbound ∷ outbound ∷ subject ∷ count ∷ []) path) - 48 ≡ length path = omega (arith, c) in
    (λ i. nat_le 48 (c i) && nat_le 1 (m i) && nat_le (m i) 4 && nat_le (g i) 1 && nat_le (l i) (2 ^ 40)
    && cond (m i == 1) (s i == 0 && not (is_no_path (d i))) (c i == 48))
    ∙ and_from _ _ (and_from _ _ (and_from _ _ (and_from _ _ (and_from _ _ (le-leb 48 (48 + length path) (omega arith)) (le-leb 1 medium least)) (le-leb medium 4 most)) (le-leb (flag_word flag) 1 f))
    (le-leb count (2 ^ 40) few)) tail

-- an object
pub object_laid : (account : Acct) (others : List ℕ) → length others ≡ 8 → IsLaid (record { kind = kinds.Object; bytes = layout (account_number account ∷ others) [] })
object_laid account others long =
    let f = account_few account in
    let a = field_laid (account_number account ∷ others) [] 0 (omega arith) (omega arith) (omega (arith, f)) in
    let c : length (layout (account_number account ∷ others) []) ≡ 72 = count_laid (account_number account ∷ others) [] 72 (omega (arith, long)) in
    (λ i. c i == 72 && nat_le (a i) 1) ∙ and_from _ _ (eq-eqb 72 72 refl) (le-leb (account_number account) 1 f)

-- a ticket
pub record IsFewTicket (row : TicketRow) : Type 0 where
  pub number : row.number ≤ 2 ^ 40
  pub coarse : row.coarse < 256
  pub fine : row.fine < 256
  pub file : row.asked.file ≤ 2 ^ 40
  pub bulk : row.asked.bulk ≤ 2 ^ 40
  pub heap : row.asked.heap ≤ 2 ^ 40

pub ticket_laid : (account : Acct) (before next : ℕ) (row : TicketRow) → IsFewTicket row → IsLaid (ticket_block account before next row)
ticket_laid account before next row few =
    let a = account_few account in
    let g = flag_few row.granted in
    let number = few.number in
    let coarse = few.coarse in
    let fine = few.fine in
    let file = few.file in
    let bulk = few.bulk in
    let heap = few.heap in
    let f0 = field_laid (ticket_words account next row) [] 0 (omega arith) (omega arith) (omega (arith, number)) in
    let f1 = field_laid (ticket_words account next row) [] 1 (omega arith) (omega arith) (omega (arith, a)) in
    let f2 = field_laid (ticket_words account next row) [] 2 (omega arith) (omega arith) (omega (arith, coarse)) in
    let f3 = field_laid (ticket_words account next row) [] 3 (omega arith) (omega arith) (omega (arith, fine)) in
    let f4 = field_laid (ticket_words account next row) [] 4 (omega arith) (omega arith) (omega (arith, file)) in
    let f5 = field_laid (ticket_words account next row) [] 5 (omega arith) (omega arith) (omega (arith, bulk)) in
    let f6 = field_laid (ticket_words account next row) [] 6 (omega arith) (omega arith) (omega (arith, heap)) in
    let f10 = field_laid (ticket_words account next row) [] 10 (omega arith) (omega arith) (omega (arith, g)) in
    let c : length (layout (ticket_words account next row) []) ≡ 96 = count_laid (ticket_words account next row) [] 96 (omega arith) in
    (λ i. c i == 96 && nat_le (f0 i) (2 ^ 40) && nat_le (f1 i) 1 && nat_le (f2 i) 255 && nat_le (f3 i) 255 && nat_le (f4 i) (2 ^ 40) && nat_le (f5 i) (2 ^ 40)
    && nat_le (f6 i) (2 ^ 40) && nat_le (f10 i) 1)
    ∙ and_from _ _ (and_from _ _ (and_from _ _ (and_from _ _ (and_from _ _ (and_from _ _ (and_from _ _ (and_from _ _ (eq-eqb 96 96 refl) (le-leb row.number (2 ^ 40) number))
    (le-leb (account_number account) 1 a)) (le-leb row.coarse 255 (omega (arith, coarse)))) (le-leb row.fine 255 (omega (arith, fine)))) (le-leb row.asked.file (2 ^ 40) file))
    (le-leb row.asked.bulk (2 ^ 40) bulk)) (le-leb row.asked.heap (2 ^ 40) heap)) (le-leb (flag_word row.granted) 1 g)
