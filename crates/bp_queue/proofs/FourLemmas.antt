-- Four lists among blocks: each is kept, and each may become another.
use Rattle.std.proofs.Common.{◌≡◌, [], ◌++◌, refl, sym, ap, ◌∙◌, subst, append_assoc}
use Rattle.std.specs.Prelude.{if◌then◌else◌}
use Rattle.sdr_base.specs.Blocks.{Blocks}
use Rattle.sdr_base.specs.Entries.{BlocksAre, Changes, Entries}
use Rattle.sdr_base.specs.Lists.{ListRow, list_entries}
use Rattle.sdr_base.proofs.StandingLemmas.{moved, moved_back}
use Rattle.bp_queue.specs.Classes.{is_class}
use Rattle.bp_queue.specs.Kept.{four_lists, list_of}
use Rattle.bp_queue.specs.declared.class.Class.{Class}
use Rattle.bp_queue.specs.declared.class.Class.TheVariants as classes
use Rattle.bp_queue.specs.declared.queues.Queues.{Queues}

-- a part of the blocks becomes another where it stands
pub changed_inside : {b b' : Blocks} {part part' : Entries} (before behind : Entries) → Changes b b' part part' →
    BlocksAre b (before ++ (part ++ behind)) → BlocksAre b' (before ++ (part' ++ behind))
changed_inside {b} {b'} {part} {part'} before behind c s =
    moved_back before part' behind (c.kept (before ++ behind) (moved before part behind s))

-- the list of a class is another
abbrev pub with_class : Class → ListRow → (Class → ListRow) → Class → ListRow
with_class class row of_class other = if is_class other class then row else of_class other

module _ (q : Queues) (of_class : Class → ListRow) (line : ListRow) (more : Entries) where
  abbrev bulk : Entries
  bulk = list_entries q.bulk (of_class classes.Bulk)

  abbrev normal : Entries
  normal = list_entries q.normal (of_class classes.Normal)

  abbrev urgent : Entries
  urgent = list_entries q.urgent (of_class classes.Urgent)

  abbrev all : Entries
  all = four_lists q of_class line more

  -- what stands before the list of a class, and what behind it
  abbrev pub before_class : Class → Entries
  before_class classes.Bulk = []
  before_class classes.Normal = bulk
  before_class classes.Urgent = bulk ++ normal

  abbrev pub behind_class : Class → Entries
  behind_class classes.Bulk = normal ++ (urgent ++ (list_entries q.line line ++ more))
  behind_class classes.Normal = urgent ++ (list_entries q.line line ++ more)
  behind_class classes.Urgent = list_entries q.line line ++ more

  -- what stands before the line
  abbrev pub before_line : Entries
  before_line = (bulk ++ normal) ++ urgent

  around_class : (class : Class) (row : ListRow) →
      four_lists q (with_class class row of_class) line more
      ≡ before_class class ++ (list_entries (list_of q class) row ++ behind_class class)
  around_class classes.Bulk row = refl
  around_class classes.Normal row = refl
  around_class classes.Urgent row = sym (append_assoc bulk normal (list_entries q.urgent row ++ (list_entries q.line line ++ more)))

  pub class_around : (class : Class) → all ≡ before_class class ++ (list_entries (list_of q class) (of_class class) ++ behind_class class)
  class_around classes.Bulk = refl
  class_around classes.Normal = refl
  class_around classes.Urgent = sym (append_assoc bulk normal (urgent ++ (list_entries q.line line ++ more)))

  around_line : (row : ListRow) → four_lists q of_class row more ≡ before_line ++ (list_entries q.line row ++ more)
  around_line row =
      sym (append_assoc bulk normal (urgent ++ (list_entries q.line row ++ more)))
      ∙ sym (append_assoc (bulk ++ normal) urgent (list_entries q.line row ++ more))

  module _ {b : Blocks} (s : BlocksAre b all) where
    pub class_stands : (class : Class) →
        BlocksAre b (list_entries (list_of q class) (of_class class) ++ (before_class class ++ behind_class class))
    class_stands class =
        moved (before_class class) (list_entries (list_of q class) (of_class class)) (behind_class class)
        (subst (λ (es : Entries). BlocksAre b es) (class_around class) s)

    pub line_stands : BlocksAre b (list_entries q.line line ++ (before_line ++ more))
    line_stands = moved before_line (list_entries q.line line) more (subst (λ (es : Entries). BlocksAre b es) (around_line line) s)

    pub class_changed : {b' : Blocks} (class : Class) (row : ListRow) →
        Changes b b' (list_entries (list_of q class) (of_class class)) (list_entries (list_of q class) row) →
        BlocksAre b' (four_lists q (with_class class row of_class) line more)
    class_changed {b'} class row c =
        subst (λ (es : Entries). BlocksAre b' es) (sym (around_class class row))
        (changed_inside (before_class class) (behind_class class) c
        (subst (λ (es : Entries). BlocksAre b es) (class_around class) s))

    pub line_changed : {b' : Blocks} (row : ListRow) → Changes b b' (list_entries q.line line) (list_entries q.line row) →
        BlocksAre b' (four_lists q of_class row more)
    line_changed {b'} row c =
        subst (λ (es : Entries). BlocksAre b' es) (sym (around_line row))
        (changed_inside before_line more c (subst (λ (es : Entries). BlocksAre b es) (around_line line) s))

-- other blocks behind four lists
pub four_append : (q : Queues) (of_class : Class → ListRow) (line : ListRow) (more rest : Entries) →
    four_lists q of_class line more ++ rest ≡ four_lists q of_class line (more ++ rest)
four_append q of_class line more rest =
    let A = list_entries q.bulk (of_class classes.Bulk) in
    let B = list_entries q.normal (of_class classes.Normal) in
    let C = list_entries q.urgent (of_class classes.Urgent) in
    let D = list_entries q.line line in
    append_assoc A (B ++ (C ++ (D ++ more))) rest
    ∙ ap (λ (es : Entries). A ++ es)
    (append_assoc B (C ++ (D ++ more)) rest
    ∙ ap (λ (es : Entries). B ++ es) (append_assoc C (D ++ more) rest ∙ ap (λ (es : Entries). C ++ es) (append_assoc D more rest)))

-- the same lists
pub four_same : (q : Queues) (of_class of_class' : Class → ListRow) (line : ListRow) (more : Entries) →
    ((class : Class) → of_class class ≡ of_class' class) → four_lists q of_class line more ≡ four_lists q of_class' line more
four_same q of_class of_class' line more e = λ i. four_lists q (λ class. e class i) line more

-- the blocks before what stands behind four lists
abbrev pub before_more : Queues → (Class → ListRow) → ListRow → Entries
before_more q of_class line = four_lists q of_class line []

pub around_more : (q : Queues) (of_class : Class → ListRow) (line : ListRow) (more : Entries) →
    four_lists q of_class line more ≡ before_more q of_class line ++ more
around_more q of_class line more = sym (four_append q of_class line [] more)

-- a part of what stands behind them becomes another
pub more_changed : {b b' : Blocks} (q : Queues) (of_class : Class → ListRow) (line : ListRow) (before part part' behind : Entries) →
    Changes b b' part part' → BlocksAre b (four_lists q of_class line (before ++ (part ++ behind))) →
    BlocksAre b' (four_lists q of_class line (before ++ (part' ++ behind)))
more_changed {b} {b'} q of_class line before part part' behind c s =
    let F = before_more q of_class line in
    subst (λ (es : Entries). BlocksAre b' es)
    (append_assoc F before (part' ++ behind) ∙ sym (around_more q of_class line (before ++ (part' ++ behind))))
    (changed_inside (F ++ before) behind c
    (subst (λ (es : Entries). BlocksAre b es)
    (around_more q of_class line (before ++ (part ++ behind)) ∙ sym (append_assoc F before (part ++ behind))) s))
