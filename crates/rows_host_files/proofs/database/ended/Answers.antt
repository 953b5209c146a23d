use Rattle.rows_host_files.proofs.database.ended.Goals as goal

pub returns-in_ok-end_life-in-Ok : goal.returns-in_ok-end_life-in-Ok
returns-in_ok-end_life-in-Ok g c = record { closed = c.in-Ok.files; rows = c.in-Ok.ensures.rows; gives_up = c.in-Ok.ensures.gives_up; ends = c.in_ok-end_life-in-Ok.ensures.ends }
