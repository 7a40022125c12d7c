-- What a writer of a register has written after some files.
use Rattle.std.proofs.Common.{◌≡◌, ℕ, ◌+◌, ◌<◌, Bool, true, List, [], ◌∷◌, ◌++◌, length, Option, refl, sym, ap, subst, ◌∙◌, arith, append_assoc, length-append}
use Rattle.std.proofs.Common.{codes, get_or, take, drop}
use Rattle.std.proofs.lemmas.List.{take_more, take-append-drop}
use Rattle.std.specs.Fmt.{decimal}
use Rattle.std.proofs.KnownBytes.{Appends-nil}
use Rattle.std.specs.Io.KnownBytes.{Appends}
use Rattle.permit_base.specs.declared.words.RegisterKind.{RegisterKind}
use Rattle.permit_core.specs.Taking.{TookAll, StoppedIn, BeganOf}
use Rattle.permit_model.specs.Register.{register_text, foot}
use Rattle.permit_model.specs.Tables.{FileView}
use Rattle.permit_report.specs.declared.writer.RegisterWriter.{RegisterWriter}
use Rattle.permit_report.specs.Outgoing.{WroteFront}
use Rattle.permit_report.specs.Progress.{Progress, opening, part, ending, one_line_more}
use Rattle.permit_report.specs.Taken.{progress, IsSameOutput, TakesFile}
use Rattle.permit_report.specs.Whole.{IsBegun}
use Rattle.permit_report.proofs.Parts.{parts, later, later_none, later_more, parts-append, register_text_parts}
use Rattle.permit_report.proofs.Writes.{appends_both, front_of_first, front_of_both, front_of_whole}

-- some files taken, and one more
pub took_more : {T I : Type 0} (took : T → I → T → Bool → Type 0) (items : List I) (old mid new : T) (item : I)
    → TookAll took items old mid → took mid item new true → TookAll took (items ++ item ∷ []) old new
took_more took [] old mid new item none last = (new, subst (λ m. took m item new true) none last, refl)
took_more took (i ∷ items) old mid new item (next, first, others) last = (next, first, took_more took items next mid new item others last)

-- one item more of those that were taken
pub take_next : {I : Type 0} (items : List I) (i : ℕ) (item : I) → i < length items → item ≡ get_or items i item →
    take (i + 1) items ≡ take i items ++ item ∷ []
take_next items i item h is = take_more items i item h ∙ ap (λ x. take i items ++ x ∷ []) (sym is)

-- the items before one, it, and those after it
pub taken_apart : {I : Type 0} (items : List I) (i : ℕ) (item : I) → i < length items → item ≡ get_or items i item →
    items ≡ take i items ++ item ∷ drop (i + 1) items
taken_apart items i item h is =
    sym (take-append-drop (i + 1) items) ∙ ap (λ x. x ++ drop (i + 1) items) (take_next items i item h is)
    ∙ append_assoc (take i items) (item ∷ []) (drop (i + 1) items)

-- the ending isn't empty
left_over : (before : List ℕ) (at : Progress) → 0 < length (before ++ ending at)
left_over before at =
    omega (
      arith,
      length-append before (ending at),
      length-append (opening at.kind at.lines) (foot at.lines),
      length-append (codes "files ") (decimal at.lines ++ 10 ∷ []),
      length-append (decimal at.lines) (10 ∷ []),
    )

module _ {W : Type 0} (contents : W → Option (List ℕ)) where
  -- what the parts of the files leave
  pub record Holds (old new : RegisterWriter W) (files : List FileView) : Type 0 where
    pub same : IsSameOutput old new
    pub at : progress new ≡ later (progress old) (length files)
    pub wrote : Appends (contents old.writer.now) (contents new.writer.now) (parts (progress old) files)

  pub holds : (files : List FileView) (old new : RegisterWriter W) → TookAll (TakesFile contents) files old new → Holds old new files
  holds [] old new is = record {
    same = ap (λ (w : RegisterWriter W). w.writer.ghost_name) is;
    at = ap progress is ∙ later_none (progress old);
    wrote = let P : RegisterWriter W → Type 0 = λ w. Appends (contents old.writer.now) (contents w.writer.now) [] in subst P (sym is)
        (Appends-nil (contents old.writer.now));
  }
  holds (file ∷ files) old new (mid, first, others) =
      let rest = holds files mid new others in
      record {
        same = rest.same ∙ first.0;
        at = rest.at ∙ ap (λ (p : Progress). later p (length files)) first.1 ∙ later_more (progress old) (length files);
        wrote = appends_both (contents old.writer.now) (contents mid.writer.now) (contents new.writer.now) _ _ first.2
            (let P : Progress → Type 0 = λ p. Appends (contents mid.writer.now) (contents new.writer.now) (parts p files) in subst P first.1 rest.wrote);
      }

  -- what follows the parts follows the register's text up to there
  text_is : (kind : RegisterKind) (day : ℕ) (files : List FileView) (old new : RegisterWriter W) → IsBegun kind day old → Holds old new files
      → parts (progress old) files ++ ending (progress new) ≡ register_text kind day files
  text_is kind day files old new begun is =
      ap (λ (p : Progress). parts (progress old) files ++ ending p) is.at ∙ sym (register_text_parts kind day files (progress old) begun)

  -- all files and then the ending are the whole text
  pub whole : (kind : RegisterKind) (day : ℕ) (files : List FileView) (old new : RegisterWriter W) (after : Option (List ℕ)) → IsBegun kind day old
      → TookAll (TakesFile contents) files old new → Appends (contents new.writer.now) after (ending (progress new)) →
      Appends (contents old.writer.now) after (register_text kind day files)
  whole kind day files old new after begun took ended =
      let is = holds files old new took in
      let P : List ℕ → Type 0 = λ t. Appends (contents old.writer.now) after t in
      subst P (text_is kind day files old new begun is) (appends_both (contents old.writer.now) (contents new.writer.now) after _ _ is.wrote ended)

  -- all files and then a prefix of the ending
  pub whole_front : (kind : RegisterKind) (day : ℕ) (files : List FileView) (old new : RegisterWriter W) (after : Option (List ℕ)) → IsBegun kind day old
      → TookAll (TakesFile contents) files old new → WroteFront (contents new.writer.now) after (ending (progress new)) →
      WroteFront (contents old.writer.now) after (register_text kind day files)
  whole_front kind day files old new after begun took ended =
      let is = holds files old new took in
      let P : List ℕ → Type 0 = λ t. WroteFront (contents old.writer.now) after t in
      subst P (text_is kind day files old new begun is) (front_of_both (contents old.writer.now) (contents new.writer.now) after _ _ is.wrote ended)

  -- the text of all files, cut after some of them
  text_cut : (kind : RegisterKind) (day : ℕ) (given rest : List FileView) (old new : RegisterWriter W) → IsBegun kind day old → Holds old new given
      → parts (progress old) given ++ (parts (progress new) rest ++ ending (later (progress old) (length (given ++ rest))))
      ≡ register_text kind day (given ++ rest)
  text_cut kind day given rest old new begun is =
      sym (append_assoc (parts (progress old) given) (parts (progress new) rest) _)
      ∙ ap (λ (p : Progress). (parts (progress old) given ++ parts p rest) ++ ending (later (progress old) (length (given ++ rest)))) is.at
      ∙ ap (λ t. t ++ ending (later (progress old) (length (given ++ rest)))) (sym (parts-append (progress old) given rest))
      ∙ sym (register_text_parts kind day (given ++ rest) (progress old) begun)

  -- a file that is answered false leaves a prefix of the text
  pub stopped : (kind : RegisterKind) (day : ℕ) (files : List FileView) (old new : RegisterWriter W) → IsBegun kind day old
      → StoppedIn (TakesFile contents) files old new → WroteFront (contents old.writer.now) (contents new.writer.now) (register_text kind day files)
      × IsSameOutput old new
  stopped kind day files old new begun (given, last, rest, all, mid, took, ends) =
      let is = holds given old mid took in
      let P : List FileView → Type 0 = λ fs. WroteFront (contents old.writer.now) (contents new.writer.now) (register_text kind day fs) in
      let Q : List ℕ → Type 0 = λ t. WroteFront (contents old.writer.now) (contents new.writer.now) t in
      let part_front = front_of_first (contents mid.writer.now) (contents new.writer.now) (part (progress mid) last)
      (parts (one_line_more (progress mid)) rest) ends.2 in
      let parts_front = front_of_first (contents mid.writer.now) (contents new.writer.now) (parts (progress mid) (last ∷ rest))
      (ending (later (progress old) (length (given ++ last ∷ rest)))) part_front in (
        subst P (sym all) (subst Q (text_cut kind day given (last ∷ rest) old mid begun is)
            (front_of_both (contents old.writer.now) (contents mid.writer.now) (contents new.writer.now) _ _ is.wrote parts_front)),
        ends.0 ∙ is.same,
      )

  -- some of the files, each answered true, leave a prefix of the text
  pub began : (kind : RegisterKind) (day : ℕ) (files : List FileView) (old new : RegisterWriter W) → IsBegun kind day old
      → BeganOf (TakesFile contents) files old new → WroteFront (contents old.writer.now) (contents new.writer.now) (register_text kind day files)
      × IsSameOutput old new
  began kind day files old new begun (given, rest, all, took) =
      let is = holds given old new took in
      let P : List FileView → Type 0 = λ fs. WroteFront (contents old.writer.now) (contents new.writer.now) (register_text kind day fs) in
      let Q : List ℕ → Type 0 = λ t. WroteFront (contents old.writer.now) (contents new.writer.now) t in
      let more = parts (progress new) rest ++ ending (later (progress old) (length (given ++ rest))) in
      let some : 0 < length more = left_over (parts (progress new) rest) (later (progress old) (length (given ++ rest))) in (
        subst P (sym all) (subst Q (text_cut kind day given rest old new begun is)
            (front_of_whole (contents old.writer.now) (contents new.writer.now) (parts (progress old) given) more some is.wrote)),
        is.same,
      )

  -- the same of a writer's last value
  pub front_between : (old first new last : W) (text : List ℕ) → old ≡ first → WroteFront (contents old) (contents new) text → new ≡ last →
      WroteFront (contents first) (contents last) text
  front_between old first new last text here is there =
      let P : W → Type 0 = λ w. WroteFront (contents w) (contents new) text in
      let Q : W → Type 0 = λ w. WroteFront (contents first) (contents w) text in
      subst Q there (subst P here is)

  pub whole_between : (old first new last : W) (text : List ℕ) → old ≡ first → Appends (contents old) (contents new) text → new ≡ last →
      Appends (contents first) (contents last) text
  whole_between old first new last text here is there =
      let P : W → Type 0 = λ w. Appends (contents w) (contents new) text in
      let Q : W → Type 0 = λ w. Appends (contents first) (contents w) text in
      subst Q there (subst P here is)
