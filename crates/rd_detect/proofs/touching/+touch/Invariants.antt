use Rattle.rd_detect.proofs.touching.+touch.Given as goal

abbrev pub decreases-touch : goal.decreases-touch
decreases-touch g a = a.count
