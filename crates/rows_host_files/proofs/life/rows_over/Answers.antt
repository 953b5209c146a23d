use Rattle.rows_host_files.proofs.life.rows_over.Goals as goal

pub returns-in-Ok : goal.returns-in-Ok
returns-in-Ok g c = record { taken = c.in-Ok.ensures.taken; honest = c.in-Ok.ensures.honest; refused = tt }

pub returns-in-Err : goal.returns-in-Err
returns-in-Err g c = record { taken = tt; honest = tt; refused = (c.in-Err.fault, c.in-Err.files, c.refused_by.ensures, c.in-Err.ensures.refused) }
