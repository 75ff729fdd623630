use Rattle.flow_query.proofs.lineage.show_lineage.Given as goal

abbrev pub ghosts-tell : goal.ghosts-tell
ghosts-tell g a = record { name = a.blank.name; parts = a.blank.parts }
