-- The line of an entry, and what an entry adds.
use Rattle.std.proofs.Common.{◌≡◌, refl, ap, ◌∙◌, subst, ℕ, ◌<◌, true, false, List, [], ◌∷◌, ◌++◌, length, Option, append_assoc, length-append, arith}
use Rattle.permit_base.specs.declared.words.Role.{Role}
use Rattle.permit_model.specs.Register.{date_text}
use Rattle.permit_history.specs.declared.entry.Deed.{Deed}
use Rattle.permit_history.specs.declared.entry.Entry.{Entry}
use Rattle.permit_report.specs.Dates.{shown_date}
use Rattle.permit_history.specs.LineData.{caller_in, done_word}
use Rattle.permit_chronicle.specs.declared.wanted.Wanted.{Wanted}
use Rattle.permit_chronicle.specs.Lines.{about, line, spaced, told, who}
use Rattle.permit_chronicle.specs.Telling.{part, role_of}
use Rattle.permit_chronicle.specs.Wanted.{is_wanted}

joined : (a b c d : List ℕ) → a ++ b ++ c ++ d ≡ a ++ (b ++ (c ++ d))
joined a b c d = append_assoc (a ++ b) c d ∙ append_assoc a b (c ++ d)

-- what is printed, one part after another
pub told_is : (role : Option Role) (deed : Deed) (caller : ℕ) (done old with_who with_done whole : List ℕ) → caller ≡ caller_in deed
    → done ≡ done_word deed → with_who ≡ old ++ spaced (who role caller) → with_done ≡ with_who ++ spaced done
    → whole ≡ with_done ++ about deed → whole ≡ old ++ told role deed
unfolding told
told_is role deed caller done old with_who with_done whole by so one two all =
    all ∙ ap (λ t. t ++ about deed) (two ∙ ap (λ t. with_who ++ spaced t) so
    ∙ ap (λ t. t ++ spaced (done_word deed)) (one ∙ ap (λ n. old ++ spaced (who role n)) by))
    ∙ joined old (spaced (who role (caller_in deed))) (spaced (done_word deed)) (about deed)

-- the parts of a line, one after another
pub line_is : (role : Option Role) (entry : Entry) (dated with_told whole : List ℕ) → dated ≡ shown_date entry.day
    → with_told ≡ dated ++ told role entry.deed → whole ≡ with_told ++ 10 ∷ [] → whole ≡ line role entry
unfolding line
line_is role entry dated with_told whole on one all =
    all ∙ ap (λ t. t ++ 10 ∷ []) (one ∙ ap (λ t. t ++ told role entry.deed) on) ∙ append_assoc (shown_date entry.day) (told role entry.deed) (10 ∷ [])

-- a line isn't empty
pub line_some : (role : Option Role) (entry : Entry) → 0 < length (line role entry)
unfolding line
line_some role entry =
    omega (arith, length-append (shown_date entry.day) (told role entry.deed ++ 10 ∷ []), length-append (told role entry.deed) (10 ∷ []))

-- a date as it is shown
pub shown : (day other : ℕ) (text : List ℕ) → day ≡ other → text ≡ date_text day → text ≡ shown_date other
unfolding shown_date
shown day other text same is = subst (λ d. text ≡ shown_date d) same is

pub part_by : (wanted : Wanted) (roles : List (Option Role)) (entry : Entry) (caller : ℕ) (role : Option Role) → caller ≡ caller_in entry.deed
    → role ≡ role_of roles caller → is_wanted wanted entry ≡ true → line role entry ≡ part wanted roles entry
unfolding part
part_by wanted roles entry caller role by so is = rw is (ap (λ r. line r entry) (so ∙ ap (role_of roles) by))

pub part_unwanted : (wanted : Wanted) (roles : List (Option Role)) (entry : Entry) → is_wanted wanted entry ≡ false → [] ≡ part wanted roles entry
unfolding part
part_unwanted wanted roles entry is = rw is refl
