-- Queues that are kept: each list of theirs is kept, with elements that name the items.
use Rattle.std.proofs.Common.{◌≡◌, ℕ, ◌<◌, ◌^◌, List, [], ◌++◌, length, Option, Some, None, refl, sym, ◌∙◌, subst, arith}
use Rattle.std.specs.Prelude.{All, filter, map}
use Rattle.std.specs.List.{AllByRecursion as Each}
use Rattle.std.proofs.lemmas.List.{length-map}
use Rattle.std.proofs.lemmas.List.Elements.{All-from_recursion, All-map, recursion_from_All}
use Rattle.sdr_base.specs.Blocks.{Block, Blocks, IsOther}
use Rattle.sdr_base.specs.Entries.{BlocksAre, Entries}
use Rattle.sdr_base.specs.Lists.{ElementFits, KeepsList, ListElement, ListRow}
use Rattle.sdr_base.specs.Lists.{RowFits as ListFits}
use Rattle.sdr_base.specs.Objects.{Misses, OnlyFault}
use Rattle.sdr_base.specs.Words.{layout}
use Rattle.sdr_base.specs.declared.kind.Kind.{Kind}
use Rattle.sdr_base.specs.declared.kind.Kind.TheVariants as kinds
use Rattle.sdr_base.specs.declared.refusal.Refusal.TheVariants as refusals
use Rattle.sdr_base.specs.declared.stop.Stop.{Stop}
use Rattle.sdr_base.specs.declared.stop.Stop.TheVariants.{Refused, DiskFault, MediaFault, Failed}
use Rattle.sdr_base.proofs.WritingLemmas.{block}
use Rattle.sdr_list.proofs.KeptLemmas.{list_there, list_words}
use Rattle.bp_queue.specs.Classes.{class_number}
use Rattle.bp_queue.specs.Kept.{FitQueue, KeepsQueues, ListsFit, Row, RowFits, class_element, class_row, four_lists, items_entries, line_element, line_row, list_of, waiting_of}
use Rattle.bp_queue.specs.States.{class_of, line_of}
use Rattle.bp_queue.specs.declared.class.Class.{Class}
use Rattle.bp_queue.specs.declared.class.Class.TheVariants as classes
use Rattle.bp_queue.specs.declared.queues.Queues.{Queues}
use Rattle.bp_queue.proofs.FourLemmas.{before_class, before_line, behind_class, class_stands, four_append, line_stands}
use Rattle.bp_queue.proofs.SortingLemmas.{each_filter, each_sorted, each_weaker}
use Rattle.bp_queue.proofs.StateLemmas.{due, in_class, length-class, length-line, ranked}

-- the blocks of queues with others beside them are four lists with others behind them
pub opened : {b : Blocks} {q : Queues} {next : ℕ} {rows : List Row} {rest : Entries} → KeepsQueues b q next rows rest →
    BlocksAre b (four_lists q (class_row rows) (line_row next rows) (items_entries rows ++ rest))
opened {b} {q} {next} {rows} {rest} k =
    subst (λ (es : Entries). BlocksAre b es) (four_append q (class_row rows) (line_row next rows) (items_entries rows) rest) k.stands

pub closed : {b : Blocks} {q : Queues} {next : ℕ} {rows : List Row} {rest : Entries} →
    BlocksAre b (four_lists q (class_row rows) (line_row next rows) (items_entries rows ++ rest)) → FitQueue q next rows →
    KeepsQueues b q next rows rest
closed {b} {q} {next} {rows} {rest} s f = record {
  stands = subst (λ (es : Entries). BlocksAre b es) (sym (four_append q (class_row rows) (line_row next rows) (items_entries rows) rest)) s;
  fits = f;
}

pub list_small : (q : Queues) → ListsFit q → (class : Class) → list_of q class < 2 ^ 64
list_small q f classes.Bulk = f.bulk
list_small q f classes.Normal = f.normal
list_small q f classes.Urgent = f.urgent

class_number_small : (class : Class) → class_number class < 2 ^ 64
class_number_small classes.Bulk = omega arith
class_number_small classes.Normal = omega arith
class_number_small classes.Urgent = omega arith

-- the elements of rows fit
fits_as : (el : Row → ListElement) → ((r : Row) → RowFits r → ElementFits (el r)) → (rows : List Row) → Each RowFits rows →
    All ElementFits (map el rows)
fits_as el f rows e =
    All-map ElementFits el rows (All-from_recursion (λ r. ElementFits (el r)) rows (each_weaker RowFits (λ r. ElementFits (el r)) f rows e))

pub each_fits : (rows : List Row) → All RowFits rows → Each RowFits rows
each_fits rows f = recursion_from_All RowFits rows f

module _ (rows : List Row) (few : length rows < 2 ^ 32) (f : All RowFits rows) where
  pub class_fits : (class : Class) → ListFits (class_row rows class)
  class_fits class = record {
    user = class_number_small class;
    elements =
        fits_as class_element (λ r x. record { addr = x.in_class; datum = x.item }) (class_of waiting_of class rows)
        (each_sorted (ranked waiting_of) RowFits [] (filter (in_class waiting_of class) rows) tt
        (each_filter RowFits (in_class waiting_of class) rows (each_fits rows f)));
  }

  pub class_few : (class : Class) → length (map class_element (class_of waiting_of class rows)) < 2 ^ 32
  class_few class =
      let m = length-map (class_of waiting_of class rows) class_element in
      let l = length-class waiting_of class rows in omega (arith, m, l, few)

  pub line_fits : (next : ℕ) → next < 2 ^ 64 → ListFits (line_row next rows)
  line_fits next n = record {
    user = n;
    elements =
        fits_as line_element (λ r x. record { addr = x.in_line; datum = x.item }) (line_of waiting_of rows)
        (each_sorted (due waiting_of) RowFits [] rows tt (each_fits rows f));
  }

  pub line_few : length (map line_element (line_of waiting_of rows)) < 2 ^ 32
  line_few =
      let m = length-map (line_of waiting_of rows) line_element in
      let l = length-line waiting_of rows in omega (arith, m, l, few)

-- the list of a class is kept, and so is the line
module _ {b : Blocks} (q : Queues) (of_class : Class → ListRow) (line : ListRow) (more : Entries)
    (s : BlocksAre b (four_lists q of_class line more)) where
  pub class_kept : (class : Class) → length (of_class class).elements < 2 ^ 32 → ListFits (of_class class) →
      KeepsList b (list_of q class) (of_class class)
  class_kept class few fits = record {
    rest = before_class q of_class line more class ++ behind_class q of_class line more class;
    stands = class_stands q of_class line more s class;
    few = few;
    fits = fits;
  }

  pub line_kept : length line.elements < 2 ^ 32 → ListFits line → KeepsList b q.line line
  line_kept few fits = record {
    rest = before_line q of_class line more ++ more;
    stands = line_stands q of_class line more s;
    few = few;
    fits = fits;
  }

pub class_list : {b : Blocks} {q : Queues} {next : ℕ} {rows : List Row} {rest : Entries} → KeepsQueues b q next rows rest → (class : Class) →
    KeepsList b (list_of q class) (class_row rows class)
class_list {b} {q} {next} {rows} {rest} k class =
    class_kept q (class_row rows) (line_row next rows) (items_entries rows ++ rest) (opened k) class
    (class_few rows k.fits.few k.fits.fits class) (class_fits rows k.fits.few k.fits.fits class)

pub line_list : {b : Blocks} {q : Queues} {next : ℕ} {rows : List Row} {rest : Entries} → KeepsQueues b q next rows rest →
    KeepsList b q.line (line_row next rows)
line_list {b} {q} {next} {rows} {rest} k =
    let bound = k.fits.bound in
    line_kept q (class_row rows) (line_row next rows) (items_entries rows ++ rest) (opened k)
    (line_few rows k.fits.few k.fits.fits) (line_fits rows k.fits.few k.fits.fits next (omega (arith, bound)))

-- where a block of a kind stands, no call finds that it doesn't
pub never_missed : (found : Option Block) (addr : ℕ) (kind : Kind) (bytes : List ℕ) → found ≡ Some (block kind bytes) → (stop : Stop) →
    Misses found addr kind stop → OnlyFault stop
never_missed found addr kind bytes there (Refused (refusals.BadAddress bad)) m =
    absurd (let e : None ≡ Some (block kind bytes) = sym m.1 ∙ there in cc)
never_missed found addr kind bytes there (Refused (refusals.WrongKind bad number)) m =
    let P : Option Block → Type 0 = λ o. IsOther o kind number in
    absurd ((subst P there m.1).1 refl)
never_missed found addr kind bytes there (Refused refusal) m = m
never_missed found addr kind bytes there DiskFault m = m
never_missed found addr kind bytes there MediaFault m = m
never_missed found addr kind bytes there Failed m = m

pub missed_only : {b : Blocks} {list : ℕ} {row : ListRow} → KeepsList b list row → (stop : Stop) → Misses (b list) list kinds.List stop →
    OnlyFault stop
missed_only {b} {list} {row} k stop m = never_missed (b list) list kinds.List (layout (list_words row) []) (list_there k) stop m

pub class_only : {b : Blocks} {q : Queues} {next : ℕ} {rows : List Row} {rest : Entries} → KeepsQueues b q next rows rest → (class : Class) →
    (stop : Stop) → Misses (b (list_of q class)) (list_of q class) kinds.List stop → OnlyFault stop
class_only k class stop m = missed_only (class_list k class) stop m
