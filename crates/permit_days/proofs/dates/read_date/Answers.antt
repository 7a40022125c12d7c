use Rattle.std.proofs.Common.{◌≡◌, pos, sym, ◌∙◌, arith}
use Rattle.std.proofs.lemmas.Int.{ints}
use Rattle.std.proofs.lemmas.Option.{IfSome_then}
use Rattle.permit_days.proofs.Written.{year_of, written_of, two_digits_of}
use Rattle.permit_days.proofs.dates.read_date.Goals as goal

pub returns-in-Ok-clause-read : goal.returns-in-Ok-clause-read
returns-in-Ok-clause-read c =
    let ymd = c.in-Ok.ensures.value in
    let read = c.in-Some.ensures.read in
    let year : c.in-Ok.date.year ≡ pos c.in-Some.year = omega (arith, ints, ymd.0, read.0) in
    let month : c.in-Ok.date.month ≡ c.in-Some.month = omega (arith, ints, ymd.1, read.1) in
    let day : c.in-Ok.date.day ≡ c.in-Some.day = omega (arith, ints, ymd.2, read.2) in
    let text = written_of c.in-Ok.date c.in-Some.year year ∙ (rw (month, day) (read.3 ∙ c.as_bytes.ensures.value)) in
    IfSome_then c.day_of_date.result c.day_of_date.ensures.day (λ n is. (c.in-Ok.date, is, text))

pub returns-in-None-clause-every : goal.returns-in-None-clause-every
returns-in-None-clause-every c = λ day small (date, is, same).
    let year = year_of date day is in
    let text = sym (written_of date year.0 year.1) ∙ same ∙ sym c.as_bytes.ensures.value in
    let none = c.in-None.ensures.reads year.0 date.month date.day year.2 (two_digits_of date).0 (two_digits_of date).1 text in
    cc
