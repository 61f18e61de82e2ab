use Rattle.std.proofs.Common.{rules, refl}
use Rattle.reader.specs.Lists.{Room}
use Rattle.reader.specs.Records.{lists_of}
use Rattle.reader.specs.StoreLaws.{table-stored, method-stored, edge-stored, crew-stored}
use Rattle.reader.proofs.columns.Columns.store.Goals as goal
use Rattle.reader.proofs.columns.Columns.store.Goals.{Start}

room : (s : Start) → Room (lists_of s.args.self.now)
room s = search rules

pub returns-in-Table-clause-stored : goal.returns-in-Table-clause-stored
returns-in-Table-clause-stored c = table-stored c.args.progress _ (room (goal.at.returns-in-Table-clause-stored c).Start) c.requires.within _ _ _ c.stage_of.ensures c.requires.fits c.in-Table.is _ _ refl refl

pub returns-in-Method-clause-stored : goal.returns-in-Method-clause-stored
returns-in-Method-clause-stored c = method-stored c.args.progress _ (room (goal.at.returns-in-Method-clause-stored c).Start) c.requires.within _ _ _ c.stage_of.ensures c.requires.fits c.in-Method.is _ _ _ _ refl refl refl refl

pub returns-in-Edge-clause-stored : goal.returns-in-Edge-clause-stored
returns-in-Edge-clause-stored c = edge-stored c.args.progress _ (room (goal.at.returns-in-Edge-clause-stored c).Start) c.requires.within _ _ _ c.stage_of.ensures c.requires.fits c.in-Edge.is _ _ _ refl refl refl

pub returns-in-Crew-clause-stored : goal.returns-in-Crew-clause-stored
returns-in-Crew-clause-stored c = crew-stored c.args.progress _ (room (goal.at.returns-in-Crew-clause-stored c).Start) c.requires.within _ _ _ c.stage_of.ensures c.in-Crew.is
