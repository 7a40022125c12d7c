use Rattle.std.proofs.Common.{rules, ◌≡◌, ◌≢◌, [], ◌<◌, ◌≤◌, length, get_or}
use Rattle.permit_sql_rows.proofs.Shapes.{one_key, only_key}
use Rattle.permit_sql_rows.proofs.schema.are_keys.Goals as goal

pub returns-in-len1 : goal.returns-in-len1
returns-in-len1 c =
    let all = c.args.table.now.uniques in
    let key = c.args.unique.now in
    let low : 1 ≤ length all = search rules in
    let high : length all < 2 = search rules in
    let some : key ≢ [] = search rules in (
      λ yes. let same : get_or all 0 c.key-item.result ≡ key = search rules in one_key all key c.key-item.result low high some same,
      λ is. let same : get_or all 0 c.key-item.result ≡ key = only_key all key c.key-item.result some is in search rules,
    )
