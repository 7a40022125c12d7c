use Rattle.std.proofs.Common.{refl, rules, ◌∙◌}
use Rattle.permit_base.specs.Digests.{digest_of}
use Rattle.permit_subcommands.proofs.RegisterRows.{as_register, register_of, register_reply, opens_register, keeps_output, writes_all, writes_cut, writes_some}
use Rattle.permit_subcommands.proofs.RegisterRows.{writes_refused, writes_between}
use Rattle.permit_office.specs.declared.showing.RowsEnd.TheVariants as ended
use Rattle.permit_subcommands.proofs.listing.write_register.Goals as goal

pub returns-in-Ok-clause-text : goal.returns-in-Ok-clause-text
returns-in-Ok-clause-text g c = λ doubt h is held.
    let laws = c.written_registers.ensures in
    let begun = c.new-writer.ensures.begun in
    let shown = c.in-All.ensures.shown doubt h is held in
    let same = register_reply c.args.office.now.policy h c.args.day c.args.kind (digest_of c.args.token) c.register_filter.result c.register_filter.ensures in
    let named = keeps_output g.W.Write.contents c.args.kind c.args.day c.new-writer.result c.rows.new.taker begun laws.output laws.line_cut laws.no_ending _ _ shown ∙ c.new-writer.ensures.same_reference in
    let writes = writes_all g.W.Write.contents c.args.kind c.args.day c.new-writer.result c.rows.new.taker begun laws.whole _ _ _ shown c.in-Ok.ensures.whole in
    writes_between g.W.Write.contents c.args.day _ _ _ _ _ _ _ same c.new-writer.ensures.nothing_out writes (search rules)

pub returns-in-All-clause-text : goal.returns-in-All-clause-text
returns-in-All-clause-text g c = λ doubt h is held.
    let laws = c.written_registers.ensures in
    let begun = c.new-writer.ensures.begun in
    let shown = c.in-All.ensures.shown doubt h is held in
    let same = register_reply c.args.office.now.policy h c.args.day c.args.kind (digest_of c.args.token) c.register_filter.result c.register_filter.ensures in
    let named = keeps_output g.W.Write.contents c.args.kind c.args.day c.new-writer.result c.rows.new.taker begun laws.output laws.line_cut laws.no_ending _ _ shown ∙ c.new-writer.ensures.same_reference in
    let writes = writes_cut g.W.Write.contents c.args.kind c.args.day c.new-writer.result c.rows.new.taker begun laws.ending_cut _ _ _ shown c.in-Err-Write.ensures.front in
    writes_between g.W.Write.contents c.args.day _ _ _ _ _ _ _ same c.new-writer.ensures.nothing_out writes (search rules)

pub returns-in-Stopped-clause-text : goal.returns-in-Stopped-clause-text
returns-in-Stopped-clause-text g c = λ doubt h is held.
    let laws = c.written_registers.ensures in
    let begun = c.new-writer.ensures.begun in
    let shown = c.in-Stopped.ensures.shown doubt h is held in
    let same = register_reply c.args.office.now.policy h c.args.day c.args.kind (digest_of c.args.token) c.register_filter.result c.register_filter.ensures in
    let named = keeps_output g.W.Write.contents c.args.kind c.args.day c.new-writer.result c.rows.new.taker begun laws.output laws.line_cut laws.no_ending _ _ shown ∙ c.new-writer.ensures.same_reference in
    let writes = writes_some g.W.Write.contents c.args.kind c.args.day c.new-writer.result c.rows.new.taker begun laws.line_cut _ shown in
    writes_between g.W.Write.contents c.args.day _ _ _ _ _ _ _ same c.new-writer.ensures.nothing_out writes (search rules)

pub returns-clause-text : goal.returns-clause-text
returns-clause-text g c = λ doubt h is held.
    let laws = c.written_registers.ensures in
    let begun = c.new-writer.ensures.begun in
    let shown = c.in-Refused.ensures.shown doubt h is held in
    let same = register_reply c.args.office.now.policy h c.args.day c.args.kind (digest_of c.args.token) c.register_filter.result c.register_filter.ensures in
    let named = keeps_output g.W.Write.contents c.args.kind c.args.day c.new-writer.result c.rows.new.taker begun laws.output laws.line_cut laws.no_ending _ _ shown ∙ c.new-writer.ensures.same_reference in
    let writes = writes_refused g.W.Write.contents c.args.kind c.args.day c.new-writer.result c.rows.new.taker begun laws.no_ending _ _ shown in
    rw c.from.ensures (writes_between g.W.Write.contents c.args.day _ _ _ _ _ _ _ same c.new-writer.ensures.nothing_out writes (search rules))

pub returns-in-Ok-clause-some : goal.returns-in-Ok-clause-some
returns-in-Ok-clause-some g c =
    let laws = c.written_registers.ensures in
    let begun = c.new-writer.ensures.begun in
    let some = c.in-All.ensures.some in
    let named = keeps_output g.W.Write.contents c.args.kind c.args.day c.new-writer.result c.rows.new.taker begun laws.output laws.line_cut laws.no_ending _ _ some.2 ∙ c.new-writer.ensures.same_reference in
    let writes = writes_all g.W.Write.contents c.args.kind c.args.day c.new-writer.result c.rows.new.taker begun laws.whole _ _ _ some.2 c.in-Ok.ensures.whole in (
      as_register c.args.kind some.0,
      register_of c.args.kind some.0 some.1,
      writes_between g.W.Write.contents c.args.day _ _ _ _ _ _ _ refl c.new-writer.ensures.nothing_out writes (search rules),
    )

pub returns-in-All-clause-some : goal.returns-in-All-clause-some
returns-in-All-clause-some g c =
    let laws = c.written_registers.ensures in
    let begun = c.new-writer.ensures.begun in
    let some = c.in-All.ensures.some in
    let named = keeps_output g.W.Write.contents c.args.kind c.args.day c.new-writer.result c.rows.new.taker begun laws.output laws.line_cut laws.no_ending _ _ some.2 ∙ c.new-writer.ensures.same_reference in
    let writes = writes_cut g.W.Write.contents c.args.kind c.args.day c.new-writer.result c.rows.new.taker begun laws.ending_cut _ _ _ some.2 c.in-Err-Write.ensures.front in (
      as_register c.args.kind some.0,
      register_of c.args.kind some.0 some.1,
      writes_between g.W.Write.contents c.args.day _ _ _ _ _ _ _ refl c.new-writer.ensures.nothing_out writes (search rules),
    )

pub returns-in-Stopped-clause-some : goal.returns-in-Stopped-clause-some
returns-in-Stopped-clause-some g c =
    let laws = c.written_registers.ensures in
    let begun = c.new-writer.ensures.begun in
    let some = c.in-Stopped.ensures.some in
    let named = keeps_output g.W.Write.contents c.args.kind c.args.day c.new-writer.result c.rows.new.taker begun laws.output laws.line_cut laws.no_ending _ _ some.2 ∙ c.new-writer.ensures.same_reference in
    let writes = writes_some g.W.Write.contents c.args.kind c.args.day c.new-writer.result c.rows.new.taker begun laws.line_cut _ some.2 in (
      as_register c.args.kind some.0,
      register_of c.args.kind some.0 some.1,
      writes_between g.W.Write.contents c.args.day _ _ _ _ _ _ _ refl c.new-writer.ensures.nothing_out writes (search rules),
    )

pub returns-clause-some : goal.returns-clause-some
returns-clause-some g c =
    let laws = c.written_registers.ensures in
    let begun = c.new-writer.ensures.begun in
    let some = c.in-Refused.ensures.some in
    let named = keeps_output g.W.Write.contents c.args.kind c.args.day c.new-writer.result c.rows.new.taker begun laws.output laws.line_cut laws.no_ending _ _ some.2 ∙ c.new-writer.ensures.same_reference in
    let writes = writes_refused g.W.Write.contents c.args.kind c.args.day c.new-writer.result c.rows.new.taker begun laws.no_ending _ _ some.2 in
    rw c.from.ensures ((
      as_register c.args.kind some.0,
      register_of c.args.kind some.0 some.1,
      writes_between g.W.Write.contents c.args.day _ _ _ _ _ _ _ refl c.new-writer.ensures.nothing_out writes (search rules),
    ))

pub returns-in-Ok-clause-ends : goal.returns-in-Ok-clause-ends
returns-in-Ok-clause-ends g c =
    let old = (g.S.Store.view c.args.office.now.store).handed in
    let new = (g.S.Store.view c.rows.new.self.store).handed in (
      ended.All c.in-All.read,
      tt,
      c.in-All.ensures.showing,
      λ doubt h is held. opens_register c.args.office.now.policy h c.args.day c.args.kind
          (digest_of c.args.token) c.register_filter.result c.register_filter.ensures _ old new (c.in-All.ensures.opened doubt h is held),
    )

pub returns-in-All-clause-ends : goal.returns-in-All-clause-ends
returns-in-All-clause-ends g c =
    let old = (g.S.Store.view c.args.office.now.store).handed in
    let new = (g.S.Store.view c.rows.new.self.store).handed in (
      ended.All c.in-All.read,
      refl,
      c.in-All.ensures.showing,
      λ doubt h is held. opens_register c.args.office.now.policy h c.args.day c.args.kind
          (digest_of c.args.token) c.register_filter.result c.register_filter.ensures _ old new (c.in-All.ensures.opened doubt h is held),
    )

pub returns-clause-ends : goal.returns-clause-ends
returns-clause-ends g c =
    let old = (g.S.Store.view c.args.office.now.store).handed in
    let new = (g.S.Store.view c.rows.new.self.store).handed in (
      ended.Refused c.in-Refused.why,
      search rules,
      c.in-Refused.ensures.showing,
      λ doubt h is held. opens_register c.args.office.now.policy h c.args.day c.args.kind
          (digest_of c.args.token) c.register_filter.result c.register_filter.ensures _ old new (c.in-Refused.ensures.opened doubt h is held),
    )
