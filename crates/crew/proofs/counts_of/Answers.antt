use Rattle.std.proofs.Common.{rules, ◌≡◌, get_or, arith}
use Rattle.std.proofs.lemmas.List.{ext_get_or, get_or-map, length-map}
use Rattle.crew.specs.declared.Worker.{Worker}
use Rattle.crew.specs.Workers.{nobody, counts_of}
use Rattle.crew.proofs.counts_of.Goals as goal

-- one after another
pub returns : goal.returns
returns c =
    let table = c.args.workers.now in
    let each = c.map.ensures.items in
    let handed = λ (v : Worker). v.handed in
    ext_get_or 0 c.map.result (counts_of table) (omega (arith, length-map table handed)) (
    λ w l.
    let told = each.at w nobody 0 (omega arith) in
    let e : get_or (counts_of table) w 0 ≡ (get_or table w nobody).handed = get_or-map handed table w nobody 0 (omega arith) in
    search rules
    )
