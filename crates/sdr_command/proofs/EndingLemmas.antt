-- How the program comes to the status that it ends with.
use Rattle.std.proofs.Common.{◌≡◌, ◌∙◌, ◌≢◌, ◌++◌, ℕ, List, [], ◌∷◌, ap, Bool, true, false, true≢false, MatchOption, None, Option, Some, Result, Ok, Err, inl, inr, length, refl, sym, subst, arith}
use Rattle.std.specs.Prelude.{IsErr, IsOk, codes}
use Rattle.std.specs.Rc.{rc_str_bytes}
use Rattle.std.specs.declared.alloc.Global.{Global}
use Rattle.std.specs.declared.rc.RcStr.{RcStr}
use Rattle.sdr_base.specs.declared.media.Media.{Ghosts as MediaGhosts}
use Rattle.sdr_base.specs.declared.sink.Sink.{Ghosts as SinkGhosts}
use Rattle.sdr_base.specs.declared.source.Source.{Ghosts as SourceGhosts}
use Rattle.sdr_disk.specs.declared.disk.Disk.{Ghosts as DiskGhosts}
use Rattle.sdr_log.specs.Frame.{IsInLimits}
use Rattle.sdr_forms.specs.Form.{OnFormat, form_of}
use Rattle.sdr_forms.specs.declared.form.Form.{Form}
use Rattle.sdr_system.specs.Held.{HoldsInput}
use Rattle.sdr_system.specs.HeldFeed.{HeldFeed}
use Rattle.sdr_system.specs.declared.held.Held.{Held}
use Rattle.sdr_command.specs.Answered.{IsAnswered}
use Rattle.sdr_command.specs.Ending.{AsksForm, AsksNothing, ComesHeld, IsEmpty, IsNotOpened, IsStatusOf, IsStatusOnFile, IsStatusRead, SpellsNone, SpellsScript, about_text, behind_disk, disk_word, feed_of}
use Rattle.sdr_command.specs.declared.answering.Answered.{Answered}

-- what the top call answered on such a disk, its status is
pub status_of : {D M S K : Type 0} {d : DiskGhosts D} {m : MediaGhosts M} {s : SourceGhosts S} {k : SinkGhosts K} {words : List (RcStr Global)}
    {disk : D} {files : M} {input input' : S} {output output' : K} {result : Answered D} (On : D → Type 0)
    → IsAnswered d m s k words disk files input input' output output' result → On disk
    → IsStatusOf d On m s k words files input input' output output' result.status
status_of {disk = disk} On a on = record {
  disk = disk;
  on = on;
  outcome = a.outcome;
  answers = a.answers;
  status_is = a.status;
}

-- where a file wasn't opened, no input was read
pub shut_status : {D M S K : Type 0} {d : DiskGhosts D} {m : MediaGhosts M} {s : SourceGhosts S} {k : SinkGhosts K} {words : List (RcStr Global)}
    {files : M} {input : S} {output output' : K} {status : ℕ}
    → IsNotOpened k output output' status → IsStatusOnFile d m s k words files input input output output' status
shut_status (inl shut) = inl (record { status_is = shut.0; unread = refl; unprinted = shut.1 })
shut_status (inr starved) = inr (inl (record { status_is = starved.0; unread = refl; written = starved.1 }))

-- what is told of what may be there
pub on_some : {A : Type 0} (P : Type 0) (Q : A → Type 0) (it : Option A) (value : A) → it ≡ Some value → MatchOption it P Q → Q value
on_some P Q (Some other) value is fact = subst Q (cc is) fact
on_some P Q None value is fact = absurd (cc is)

pub on_none : {A : Type 0} (P : Type 0) (Q : A → Type 0) (it : Option A) → it ≡ None → MatchOption it P Q → P
on_none P Q (Some other) is fact = absurd (cc is)
on_none P Q None is fact = fact

-- How a replay comes by what is held: the source that the top call reads is what is held, of which nothing was read.
module _ {D E M S K : Type 0} {d : DiskGhosts D} {e : DiskGhosts E} {m : MediaGhosts M} {s : SourceGhosts S} {h : SourceGhosts HeldFeed}
    {k : SinkGhosts K} {words : List (RcStr Global)} {files : M} {input input' : S} {output output' : K} {status : ℕ} (held : Held)
    (holds : HoldsInput (s.left input) (s.left input') (s.faults input) (s.faults input') held) (feed last : HeldFeed) (is : feed ≡ feed_of held) where
  pub comes_unread : SpellsNone held → IsStatusOf d (IsEmpty d) m h k words files feed last output output' status
      → ComesHeld d e m s h k words files input input' output output' status
  comes_unread none top =
      ComesHeld.unread held holds none last
      (subst (λ (f : HeldFeed). IsStatusOf d (IsEmpty d) m h k words files f last output output' status) is top)

  pub comes_read : SpellsScript held → IsStatusOnFile e m h k words files feed last output output' status
      → ComesHeld d e m s h k words files input input' output output' status
  comes_read spells top =
      ComesHeld.read held holds spells last
      (subst (λ (f : HeldFeed). IsStatusOnFile e m h k words files f last output output' status) is top)

  pub comes_run : SpellsScript held → IsStatusRead e m h k words files feed last output output' status
      → ComesHeld d e m s h k words files input input' output output' status
  comes_run spells (inl shut) = ComesHeld.read held holds spells (feed_of held) (shut_status shut)
  comes_run spells (inr top) = comes_read spells (inr (inr top))

-- what a reading of what is held gives, it gives of the bytes that are held
module _ {A : Type 0} (reading : List ℕ → Result A ℕ) (feed : HeldFeed) (held : Held) (is : feed ≡ feed_of held) where
  pub held_ok : (steps : A) → reading feed.left ≡ Ok steps → IsOk (reading held.bytes)
  held_ok steps spells =
      subst (λ (f : HeldFeed). IsOk (reading f.left)) is (subst (λ (r : Result A ℕ). IsOk r) (sym spells) refl)

  pub held_err : (line : ℕ) → reading feed.left ≡ Err line → IsErr (reading held.bytes)
  held_err line refused =
      subst (λ (f : HeldFeed). IsErr (reading f.left)) is (subst (λ (r : Result A ℕ). IsErr r) (sym refused) refl)

-- a word with one byte in it isn't another byte alone
byte_apart : (a b : ℕ) (path digits : List ℕ) → (a ≡ b → ⊥) → path ++ (a ∷ []) ++ digits ≡ b ∷ [] → ⊥
byte_apart a b [] digits differ same = differ cc
byte_apart a b (x ∷ []) digits differ same = cc
byte_apart a b (x ∷ y ∷ path) digits differ same = cc

-- a word that ends in a size isn't `-`
pub sized_apart : (path digits : List ℕ) → path ++ codes "=" ++ digits ≢ codes "-"
sized_apart path digits = byte_apart 61 45 path digits (λ (same : 61 ≡ 45). absurd (omega (arith, same)))

-- no words ask for nothing
pub asks_none : (words : List (RcStr Global)) → about_text words ≡ None → length words ≡ 0 → AsksNothing words words
asks_none [] no_text bare = record { no_text = no_text; behind = refl; no_form = refl }
asks_none (word ∷ words) no_text bare = absurd (omega arith)

-- what words ask for behind their first
module _ (words : List (RcStr Global)) (first : RcStr Global) (others : List (RcStr Global)) (parts : words ≡ first ∷ others) where
  pub asks_nothing : about_text words ≡ None → form_of others ≡ None → AsksNothing words others
  asks_nothing no_text no_form = record { no_text = no_text; behind = sym (ap behind_disk parts); no_form = no_form }

  pub asks_form : (word : List ℕ) (form : Form) → word ≡ rc_str_bytes first → form_of others ≡ Some form → OnFormat (Some form) IsInLimits
      → AsksForm words word others form
  asks_form word form named is_form limits = record {
    named = named ∙ sym (ap disk_word parts);
    behind = sym (ap behind_disk parts);
    is_form = is_form;
    limits = limits;
  }
