use Rattle.rows_host_files.proofs.life.rows_in_life.Goals as goal

pub returns-in-Ok : goal.returns-in-Ok
returns-in-Ok g c = λ synced. record { begun = c.in_ok-files.files; ready = c.in_ok-files.ensures synced; taken = c.in-Ok.ensures.taken; honest = c.in-Ok.ensures.honest }
